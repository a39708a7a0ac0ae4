-- What a line that was read tells of the place, and of the next line. Assumes nothing.
use Rattle.std.proofs.Common.{◌≡◌, ℕ, ◌-◌, ◌<◌, ◌≤◌, Bool, true, false, cond, eqb, ltb, ◌⊎◌, List, [], ◌∷◌, Some, None, Ok, Err, codes, Option, Result, refl, ap, ◌∙◌, inl, inr, arith}
use Rattle.std.specs.Str.{bytes_eq}
use Rattle.std.proofs.lemmas.Bool.{cases_cond, cases_lt, cond-true, cond-false, lt-ltb, le-ltb, eqb-true}
use Rattle.layout.specs.declared.faults.NumberFault.{NumberFault}
use Rattle.layout.specs.declared.faults.LineFault.{LineFault}
use Rattle.layout.specs.declared.faults.LineFault.TheVariants.{UnknownKind, OutOfPlace}
use Rattle.layout.specs.declared.faults.FaultAt.{FaultAt}
use Rattle.layout.specs.declared.line.Place.{Place}
use Rattle.layout.specs.declared.line.Place.TheVariants.{Start, Within}
use Rattle.layout.specs.Faults.{fault_at, placed}
use Rattle.layout.specs.Layout.{fields, first_of, numbers_of}
use Rattle.layout.specs.Lines.{Content, comment, problem, edge, line_of, by_letter, parted, problem_line, problem_at, problem_of, edge_points, edge_among, edge_line, edge_of}
use Rattle.layout.specs.Places.{next_place, Sound, points_of, edges_of, laid_of}
use Rattle.layout.specs.Plans.{read_next, next_of, line_at}
use Rattle.layout.proofs.Numbers.{first_some, numbers_within}

pub cond_split : {X : Type 0} (b : Bool) (x y z : X) → z ≡ cond b x y → ((b ≡ true) × (z ≡ x)) ⊎ ((b ≡ false) × (z ≡ y))
cond_split true x y z e = inl (refl, e)
cond_split false x y z e = inr (refl, e)

-- the kinds of line, by their letters
pub line_kinds : (P : Type 0) (place : Place) (l : List ℕ) (z : Result Content LineFault) → z ≡ line_of place l
    → ((rest : List ℕ) → l ≡ 99 ∷ rest → parted rest ≡ true → z ≡ Ok (comment l) → P)
    → ((rest : List ℕ) → l ≡ 112 ∷ rest → parted rest ≡ true → z ≡ problem_line place (fields rest) → P)
    → ((rest : List ℕ) → l ≡ 101 ∷ rest → parted rest ≡ true → z ≡ edge_line place (fields rest) → P)
    → (z ≡ Err UnknownKind → P) → P
line_kinds P place [] z e c p d n = n e
line_kinds P place (k ∷ rest) z e c p d n =
    elim (cond_split (parted rest) (by_letter place k rest) (Err UnknownKind) z e) [
      | inl q ↦ elim (cond_split (eqb k 99) (Ok (comment (k ∷ rest))) (cond (eqb k 112) (problem_line place (fields rest)) (cond (eqb k 101) (edge_line place (fields rest)) (Err UnknownKind))) z q.1) [
        | inl r ↦ c rest (ap (λ x. x ∷ rest) (eqb-true k 99 r.0)) q.0 r.1
        | inr r ↦ elim (cond_split (eqb k 112) (problem_line place (fields rest)) (cond (eqb k 101) (edge_line place (fields rest)) (Err UnknownKind)) z r.1) [
          | inl s ↦ p rest (ap (λ x. x ∷ rest) (eqb-true k 112 s.0)) q.0 s.1
          | inr s ↦ elim (cond_split (eqb k 101) (edge_line place (fields rest)) (Err UnknownKind) z s.1)
              [ inl t ↦ d rest (ap (λ x. x ∷ rest) (eqb-true k 101 t.0)) q.0 t.1 | inr t ↦ n t.1 ]
        ]
      ]
      | inr q ↦ n q.1
    ]

-- a number for each kind of content, and one for a fault
abbrev pub kind : Result Content LineFault → ℕ
kind (Ok (comment line)) = 0
kind (Ok (problem points edges)) = 1
kind (Ok (edge first second)) = 2
kind (Err fault) = 3

problem_of_kind : (r : Result (ℕ × ℕ) NumberFault) → (kind (problem_of r) ≡ 1) ⊎ (kind (problem_of r) ≡ 3)
problem_of_kind (Ok p) = inl refl
problem_of_kind (Err e) = inr refl

problem_at_kind : (place : Place) (fs : List (List ℕ)) → (kind (problem_at place fs) ≡ 1) ⊎ (kind (problem_at place fs) ≡ 3)
problem_at_kind Start fs = problem_of_kind (numbers_of 0 512 2048 fs)
problem_at_kind (Within a b c) fs = inr refl

pub problem_kind : (place : Place) (fs : List (List ℕ)) → (kind (problem_line place fs) ≡ 1) ⊎ (kind (problem_line place fs) ≡ 3)
problem_kind place [] = inr refl
problem_kind place (w ∷ fs) =
    elim (bytes_eq w (codes "edge")) as (λ t. (kind (cond t (problem_at place fs) (Err UnknownKind)) ≡ 1) ⊎ (kind (cond t (problem_at place fs) (Err UnknownKind)) ≡ 3))
    [ true ↦ problem_at_kind place fs | false ↦ inr refl ]

edge_of_kind : (r : Result (ℕ × ℕ) NumberFault) → (kind (edge_of r) ≡ 2) ⊎ (kind (edge_of r) ≡ 3)
edge_of_kind (Ok p) = inl refl
edge_of_kind (Err e) = inr refl

edge_among_kind : (points : Option ℕ) (fs : List (List ℕ)) → (kind (edge_among points fs) ≡ 2) ⊎ (kind (edge_among points fs) ≡ 3)
edge_among_kind None fs = inr refl
edge_among_kind (Some n) fs = edge_of_kind (numbers_of 1 n n fs)

pub edge_kind : (place : Place) (fs : List (List ℕ)) → (kind (edge_line place fs) ≡ 2) ⊎ (kind (edge_line place fs) ≡ 3)
edge_kind place fs = edge_among_kind (edge_points place) fs

-- an edge is in place while edges are missing
pub edge_in_place : (points edges laid : ℕ) (fs : List (List ℕ)) → laid < edges → edge_line (Within points edges laid) fs ≡ edge_of (numbers_of 1 points points fs)
edge_in_place points edges laid fs h = ap (λ o. edge_among o fs) (cond-true (ltb laid edges) (Some points) None (lt-ltb laid edges h))

pub edge_beyond : (points edges laid : ℕ) (fs : List (List ℕ)) → edges ≤ laid → edge_line (Within points edges laid) fs ≡ Err OutOfPlace
edge_beyond points edges laid fs h = ap (λ o. edge_among o fs) (cond-false (ltb laid edges) (Some points) None (le-ltb laid edges h))

pub problem_of_is : (points edges : ℕ) (r : Result (ℕ × ℕ) NumberFault) → Ok (problem points edges) ≡ problem_of r → Ok (points, edges) ≡ r
problem_of_is points edges (Ok x) e =
    let p : points ≡ x.0 = cc in let q : edges ≡ x.1 = cc in ap (λ m. Ok (m, edges)) p ∙ ap (λ m. Ok (x.0, m)) q
problem_of_is points edges (Err x) e = cc

pub edge_of_is : (first second : ℕ) (r : Result (ℕ × ℕ) NumberFault) → Ok (edge first second) ≡ edge_of r
    → (m : ℕ) × (n : ℕ) × (Ok (m, n) ≡ r) × (first ≡ m - 1) × (second ≡ n - 1)
edge_of_is first second (Ok x) e = (x.0, x.1, refl, cc, cc)
edge_of_is first second (Err x) e = let z : ◌≡◌ {A = ℕ} 0 1 = cc in absurd (omega arith)

-- a problem line is in place, and keeps to the limits
abbrev pub Opens : Place → ℕ → ℕ → Type 0
Opens place points edges = (place ≡ Start) × (points ≤ 512) × (edges ≤ 2048)

problem_at_is : (place : Place) (points edges : ℕ) (fs : List (List ℕ)) → Ok (problem points edges) ≡ problem_at place fs → Opens place points edges
problem_at_is Start points edges fs e =
    let w = numbers_within 0 512 2048 points edges fs (problem_of_is points edges (numbers_of 0 512 2048 fs) e) in (refl, w.0.1, w.1.1)
problem_at_is (Within a b c) points edges fs e = let z : ◌≡◌ {A = ℕ} 0 1 = cc in absurd (omega arith)

problem_line_is : (place : Place) (points edges : ℕ) (fs : List (List ℕ)) → Ok (problem points edges) ≡ problem_line place fs → Opens place points edges
problem_line_is place points edges [] e = let z : ◌≡◌ {A = ℕ} 0 1 = cc in absurd (omega arith)
problem_line_is place points edges (w ∷ fs) e =
    elim (cases_cond (bytes_eq w (codes "edge")) (problem_at place fs) (Err UnknownKind) (Ok (problem points edges)) e) [
      | inl q ↦ problem_at_is place points edges fs q
      | inr q ↦ let z : ◌≡◌ {A = ℕ} 0 1 = cc in absurd (omega arith)
    ]

-- a problem line stands first, and has its limits
pub problem_is : (place : Place) (b : List ℕ) (points edges : ℕ) → Ok (problem points edges) ≡ line_of place b → Opens place points edges
problem_is place b points edges e =
    line_kinds (Opens place points edges) place b (Ok (problem points edges)) e
    (λ rest m p q. absurd (omega (arith, ap kind q)))
    (λ rest m p q. problem_line_is place points edges (fields rest) q)
    (λ rest m p q. absurd (omega (arith, ap kind q, edge_kind place (fields rest))))
    (λ q. absurd (omega (arith, ap kind q)))

-- the points and the number of an edge keep to what the problem line said
abbrev pub FitsIn : Place → ℕ → ℕ → Type 0
FitsIn place first second = (first < points_of place) × (second < points_of place) × (laid_of place < edges_of place)

edge_line_is : (place : Place) (first second : ℕ) (fs : List (List ℕ)) → Ok (edge first second) ≡ edge_line place fs → FitsIn place first second
edge_line_is Start first second fs e = let z : ◌≡◌ {A = ℕ} 0 1 = cc in absurd (omega arith)
edge_line_is (Within a b c) first second fs e = elim (cases_lt c b) [
  | inl h ↦
      let r = edge_of_is first second (numbers_of 1 a a fs) (e ∙ edge_in_place a b c fs h) in
      let w = numbers_within 1 a a r.0 r.1 fs r.2 in
      (omega (arith, r.3, w.0.0, w.0.1), omega (arith, r.4, w.1.0, w.1.1), h)
  | inr h ↦ absurd (omega (arith, ap kind (e ∙ edge_beyond a b c fs h)))
]

-- an edge joins points that there are, and is one of those that there may be
pub edge_is : (place : Place) (b : List ℕ) (first second : ℕ) → Ok (edge first second) ≡ line_of place b → FitsIn place first second
edge_is place b first second e =
    line_kinds (FitsIn place first second) place b (Ok (edge first second)) e
    (λ rest m p q. absurd (omega (arith, ap kind q)))
    (λ rest m p q. absurd (omega (arith, ap kind q, problem_kind place (fields rest))))
    (λ rest m p q. edge_line_is place first second (fields rest) q)
    (λ q. absurd (omega (arith, ap kind q)))

-- the limits of a plan hold on
pub sound_next : (place : Place) (b : List ℕ) (s : Content) → Sound place → Ok s ≡ line_of place b → Sound (next_place place s)
sound_next place b (comment line) h e = h
sound_next place b (problem points edges) h e = let p = problem_is place b points edges e in (p.1, p.2, omega arith)
sound_next Start b (edge first second) h e = h
sound_next (Within points edges laid) b (edge first second) h e = let p = edge_is (Within points edges laid) b first second e in (h.0, h.1, omega (arith, p.2))

pub line_at_ok : (s : Content) (r : Result Content LineFault) (number : ℕ) → Ok s ≡ line_at r number → Ok s ≡ r
line_at_ok s (Ok t) number e = cc
line_at_ok s (Err x) number e = cc

pub line_at_err : (f : FaultAt) (r : Result Content LineFault) (number : ℕ) → Err f ≡ line_at r number → Err (placed f.fault f.line) ≡ next_of r number
line_at_err f (Ok t) number e = cc
line_at_err f (Err x) number e = let p : f ≡ fault_at x number = cc in ap (λ g. Err (placed g.fault g.line)) p

pub read_there : (ls : List (List ℕ)) (place : Place) (number : ℕ) (b : List ℕ) → Some b ≡ first_of ls → read_next ls place number ≡ next_of (line_of place b) number
read_there ls place number b e = ap (λ x. read_next x place number) (first_some ls b e)
