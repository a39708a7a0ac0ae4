-- A line is read as a fault if and only if it has that fault. Assumes nothing.
use Rattle.std.proofs.Common.{◌≡◌, ℕ, ◌<◌, true, ◌⊎◌, List, [], ◌∷◌, ◌++◌, Some, None, Ok, Err, codes, Option, Result, sym, refl, ap, ◌∙◌, subst, inl, inr, arith}
use Rattle.std.specs.Str.{bytes_eq}
use Rattle.std.proofs.lemmas.Slice.Eq.{bytes_eq-Decides}
use Rattle.std.proofs.lemmas.Bool.{cases_lt}
use Rattle.layout.specs.declared.faults.NumberFault.{NumberFault}
use Rattle.layout.specs.declared.faults.LineFault.{LineFault}
use Rattle.layout.specs.declared.faults.LineFault.TheVariants.{UnknownKind, OutOfPlace, Number}
use Rattle.layout.specs.declared.line.Place.{Place}
use Rattle.layout.specs.declared.line.Place.TheVariants.{Start, Within}
use Rattle.layout.specs.Faults.{fault_number}
use Rattle.layout.specs.Layout.{fields, numbers_of}
use Rattle.layout.specs.Lines.{Content, line_of, parted, problem_line, problem_at, problem_of, edge_points, edge_among, edge_line, edge_of}
use Rattle.layout.specs.Grammar.{gap, Begins, ProblemLine, EdgeLine}
use Rattle.layout.specs.FileFaults.{NamesEdge, Known, Fault}
use Rattle.layout.specs.FileFaults as faults
use Rattle.layout.proofs.LineKinds.{cond_split, line_kinds, kind, edge_in_place, edge_beyond}
use Rattle.layout.proofs.Words.{field_first, field_back}
use Rattle.layout.proofs.Written.{apart_back, apart_forth, letter_reads, comment_reads, problem_written, problem_reads, edge_written, edge_reads}

-- a p line names edge, or is of no known kind
names_or : (place : Place) (l rest : List ℕ) (z : Result Content LineFault) (fs : List (List ℕ)) → l ≡ 112 ∷ rest → parted rest ≡ true → fields rest ≡ fs
    → z ≡ problem_line place fs → NamesEdge l ⊎ (z ≡ Err UnknownKind)
names_or place l rest z [] m p e q = inr q
names_or place l rest z (w ∷ ns) m p e q =
    elim (cond_split (bytes_eq w (codes "edge")) (problem_at place ns) (Err UnknownKind) z q) [
      | inl r ↦
          let f = field_back rest w ns p e in
          let word = (bytes_eq-Decides w (codes "edge")).0 r.0 in
          inl (record { before_word = f.k; rest = f.r; written = m ∙ ap (λ x. 112 ∷ x) (f.written ∙ ap (λ x. gap f.k ++ (x ++ f.r)) word); apart = apart_back f.r f.apart })
      | inr r ↦ inr r.1
    ]

-- a line is of a known kind, or is read as unknown
known_or : (place : Place) (l : List ℕ) → Known l ⊎ (line_of place l ≡ Err UnknownKind)
known_or place l =
    line_kinds (Known l ⊎ (line_of place l ≡ Err UnknownKind)) place l (line_of place l) refl
    (λ rest m p q. inl (faults.comment (record { rest = rest; written = m; apart = apart_back rest p })))
    (λ rest m p q. elim (names_or place l rest (line_of place l) (fields rest) m p refl q) [ inl s ↦ inl (faults.problem s) | inr r ↦ inr r ])
    (λ rest m p q. inl (faults.edge (record { rest = rest; written = m; apart = apart_back rest p })))
    (λ q. inr q)

-- how a line is read that names edge
names_reads : (place : Place) (l : List ℕ) (s : NamesEdge l) → line_of place l ≡ problem_at place (fields s.rest)
names_reads place l s =
    ap (line_of place) s.written
    ∙ ap (problem_line place) (field_first s.before_word (codes "edge") s.rest (refl, (refl, (refl, (refl, tt)))) (omega arith) (apart_forth s.rest s.apart))

-- how a line is read that begins with e
edge_begins : (place : Place) (l : List ℕ) (s : Begins (codes "e") l) → line_of place l ≡ edge_line place (fields s.rest)
edge_begins place l s = letter_reads place 101 l s.rest s.written s.apart

-- the number of the fault that is read, and 0 where there is none
abbrev number_in : Result Content LineFault → ℕ
number_in (Ok line) = 0
number_in (Err fault) = fault_number fault

problem_of_number : (r : Result (ℕ × ℕ) NumberFault) → (number_in (problem_of r) ≡ 0) ⊎ (number_in (problem_of r) ≡ 14)
problem_of_number (Ok p) = inl refl
problem_of_number (Err e) = inr refl

problem_at_known : (place : Place) (fs : List (List ℕ)) → number_in (problem_at place fs) ≡ 12 → ⊥
problem_at_known Start fs e = omega (arith, problem_of_number (numbers_of 0 512 2048 fs))
problem_at_known (Within a b c) fs e = omega arith

edge_of_number : (r : Result (ℕ × ℕ) NumberFault) → (number_in (edge_of r) ≡ 0) ⊎ (number_in (edge_of r) ≡ 14)
edge_of_number (Ok p) = inl refl
edge_of_number (Err e) = inr refl

edge_known : (points : Option ℕ) (fs : List (List ℕ)) → number_in (edge_among points fs) ≡ 12 → ⊥
edge_known None fs e = omega arith
edge_known (Some n) fs e = omega (arith, edge_of_number (numbers_of 1 n n fs))

-- no line of a known kind is read as unknown
unknown_only : (place : Place) (l : List ℕ) → line_of place l ≡ Err UnknownKind → Known l → ⊥
unknown_only place l e (faults.comment s) = omega (arith, ap number_in (sym e ∙ comment_reads place l s))
unknown_only place l e (faults.problem s) = problem_at_known place (fields s.rest) (ap number_in (sym (names_reads place l s) ∙ e))
unknown_only place l e (faults.edge s) = edge_known (edge_points place) (fields s.rest) (ap number_in (sym (edge_begins place l s) ∙ e))

unknown_fault : (place : Place) (l : List ℕ) (e : LineFault) → line_of place l ≡ Err e → line_of place l ≡ Err UnknownKind → Fault place l (fault_number e)
unknown_fault place l e p q =
    let same : UnknownKind ≡ e = cc in subst (λ f. Fault place l (fault_number f)) same (faults.unknown (unknown_only place l q))

no_problem : (l : List ℕ) (e : LineFault) (m n : ℕ) → line_of Start l ≡ Err e → ProblemLine l m n → ⊥
no_problem l e m n p s = omega (arith, ap kind (sym p ∙ problem_reads l m n s))

no_edge : (points edges laid m n : ℕ) (l : List ℕ) (e : LineFault) → laid < edges → line_of (Within points edges laid) l ≡ Err e → EdgeLine points l m n → ⊥
no_edge points edges laid m n l e h p s = omega (arith, ap kind (sym p ∙ edge_reads points edges laid m n l h s))

problem_numbers : (l : List ℕ) (s : NamesEdge l) (e : LineFault) (r : Result (ℕ × ℕ) NumberFault) → line_of Start l ≡ Err e → Err e ≡ problem_of r → Fault Start l (fault_number e)
problem_numbers l s e (Ok x) p q = absurd (omega (arith, ap kind q))
problem_numbers l s e (Err x) p q =
    let same : Number x ≡ e = cc in
    subst (λ f. Fault Start l (fault_number f)) same (faults.wrong_number (faults.problem l s (λ m n. no_problem l e m n p)))

problem_fault : (place : Place) (l : List ℕ) (s : NamesEdge l) (e : LineFault) → line_of place l ≡ Err e → Err e ≡ problem_at place (fields s.rest) → Fault place l (fault_number e)
problem_fault Start l s e p q = problem_numbers l s e (numbers_of 0 512 2048 (fields s.rest)) p q
problem_fault (Within a b c) l s e p q =
    let same : OutOfPlace ≡ e = cc in
    subst (λ f. Fault (Within a b c) l (fault_number f)) same (faults.misplaced (faults.second_problem a b c l s))

edge_numbers : (a b c : ℕ) (l : List ℕ) (s : Begins (codes "e") l) (e : LineFault) (r : Result (ℕ × ℕ) NumberFault) → c < b → line_of (Within a b c) l ≡ Err e → Err e ≡ edge_of r
    → Fault (Within a b c) l (fault_number e)
edge_numbers a b c l s e (Ok x) h p q = absurd (omega (arith, ap kind q))
edge_numbers a b c l s e (Err x) h p q =
    let same : Number x ≡ e = cc in
    subst (λ f. Fault (Within a b c) l (fault_number f)) same (faults.wrong_number (faults.edge a b c l s h (λ m n. no_edge a b c m n l e h p)))

edge_fault : (place : Place) (l : List ℕ) (s : Begins (codes "e") l) (e : LineFault) → line_of place l ≡ Err e → Err e ≡ edge_line place (fields s.rest) → Fault place l (fault_number e)
edge_fault Start l s e p q =
    let same : OutOfPlace ≡ e = cc in subst (λ f. Fault Start l (fault_number f)) same (faults.misplaced (faults.early_edge l s))
edge_fault (Within a b c) l s e p q = elim (cases_lt c b) [
  | inl h ↦ edge_numbers a b c l s e (numbers_of 1 a a (fields s.rest)) h p
      (q ∙ edge_in_place a b c (fields s.rest) h)
  | inr h ↦
      let r = q ∙ edge_beyond a b c (fields s.rest) h in
      let same : OutOfPlace ≡ e = cc in
      subst (λ f. Fault (Within a b c) l (fault_number f)) same (faults.misplaced (faults.extra_edge a b c l s h))
]

-- a line that is read as a fault has it
pub line_fault_only : (place : Place) (l : List ℕ) (e : LineFault) → line_of place l ≡ Err e → Fault place l (fault_number e)
line_fault_only place l e p = elim (known_or place l) [
  | inl (faults.comment s) ↦ absurd (omega (arith, ap kind (sym p ∙ comment_reads place l s)))
  | inl (faults.problem s) ↦ problem_fault place l s e p (sym p ∙ names_reads place l s)
  | inl (faults.edge s) ↦ edge_fault place l s e p (sym p ∙ edge_begins place l s)
  | inr q ↦ unknown_fault place l e p q
]

-- a line is read as a fault with this number
pub record Read (place : Place) (l : List ℕ) (number : ℕ) : Type 0 where
  pub fault : LineFault
  pub is : line_of place l ≡ Err fault
  pub by_number : fault_number fault ≡ number

problem_wrong : (l : List ℕ) (r : Result (ℕ × ℕ) NumberFault) → ((m n : ℕ) → ProblemLine l m n → ⊥) → line_of Start l ≡ problem_of r → Read Start l 14
problem_wrong l (Ok x) none q = absurd (none x.0 x.1 (problem_written Start l x.0 x.1 (sym q)))
problem_wrong l (Err x) none q = record { fault = Number x; is = q; by_number = refl }

edge_wrong : (a b c : ℕ) (l : List ℕ) (r : Result (ℕ × ℕ) NumberFault) → ((m n : ℕ) → EdgeLine a l m n → ⊥) → line_of (Within a b c) l ≡ edge_of r → Read (Within a b c) l 14
edge_wrong a b c l (Ok x) none q = absurd (none _ _ (edge_written a b c _ _ l (sym q)))
edge_wrong a b c l (Err x) none q = record { fault = Number x; is = q; by_number = refl }

-- a line that has a fault is read as it
pub line_fault_every : (place : Place) (l : List ℕ) (number : ℕ) → Fault place l number → Read place l number
line_fault_every place l number (faults.unknown none) =
    elim (known_or place l) [ inl k ↦ absurd (none k) | inr q ↦ record { fault = UnknownKind; is = q; by_number = refl } ]
line_fault_every place l number (faults.misplaced (faults.second_problem a b c x s)) = record { fault = OutOfPlace; is = names_reads (Within a b c) x s; by_number = refl }
line_fault_every place l number (faults.misplaced (faults.early_edge x s)) = record { fault = OutOfPlace; is = edge_begins Start x s; by_number = refl }
line_fault_every place l number (faults.misplaced (faults.extra_edge a b c x s h)) =
    record {
      fault = OutOfPlace;
      is = edge_begins (Within a b c) x s ∙ edge_beyond a b c (fields s.rest) h;
      by_number = refl;
    }
line_fault_every place l number (faults.wrong_number (faults.problem x s none)) = problem_wrong x (numbers_of 0 512 2048 (fields s.rest)) none (names_reads Start x s)
line_fault_every place l number (faults.wrong_number (faults.edge a b c x s h none)) =
    edge_wrong a b c x (numbers_of 1 a a (fields s.rest)) none
    (edge_begins (Within a b c) x s ∙ edge_in_place a b c (fields s.rest) h)
