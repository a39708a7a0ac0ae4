-- How each kind of line is written, from what it says, and back. Assumes nothing.
use Rattle.std.proofs.Common.{◌≡◌, ℕ, ◌+◌, ◌-◌, ◌<◌, ◌≤◌, true, ◌&&◌, leb, List, [], ◌∷◌, ◌++◌, Ok, Err, codes, Result, sym, refl, ap, ◌∙◌, inl, inr, arith}
use Rattle.std.specs.Str.{bytes_eq}
use Rattle.std.proofs.lemmas.Slice.Eq.{bytes_eq-Decides}
use Rattle.std.proofs.lemmas.List.{append-nil}
use Rattle.std.proofs.lemmas.Bool.{eqb-true, cond-true, cases_lt}
use Rattle.std.proofs.lemmas.Bool.Decides.{nat_tests}
use Rattle.layout.specs.declared.faults.NumberFault.{NumberFault}
use Rattle.layout.specs.declared.faults.NumberFault.TheVariants.{Wrong}
use Rattle.layout.specs.declared.faults.LineFault.TheVariants.{UnknownKind}
use Rattle.layout.specs.declared.line.Place.{Place}
use Rattle.layout.specs.declared.line.Place.TheVariants.{Start, Within}
use Rattle.layout.specs.Layout.{fields, decimal, between, number_of, numbers_of, both}
use Rattle.layout.specs.Lines.{comment, problem, edge, line_of, by_letter, parted, problem_line, problem_at, problem_of, edge_line, edge_of}
use Rattle.layout.specs.Grammar.{gap, Apart, CommentLine, ProblemLine, EdgeLine}
use Rattle.layout.proofs.Numbers.{numbers_within}
use Rattle.layout.proofs.Numerals.{numeral_back, numeral_forth}
use Rattle.layout.proofs.Words.{field_first, field_last, field_back, fields_none, decimal_word}
use Rattle.layout.proofs.LineKinds.{cond_split, line_kinds, kind, problem_kind, edge_kind, edge_in_place, edge_beyond, problem_of_is, edge_of_is}

-- letters

pub apart_back : (rest : List ℕ) → parted rest ≡ true → Apart rest
apart_back [] p = inl refl
apart_back (b ∷ bs) p = inr (bs, ap (λ x. x ∷ bs) (eqb-true b 32 p))

pub apart_forth : (rest : List ℕ) → Apart rest → parted rest ≡ true
apart_forth rest (inl e) = ap parted e
apart_forth rest (inr p) = ap parted p.1

-- a line is read by its letter
pub letter_reads : (place : Place) (k : ℕ) (l rest : List ℕ) → l ≡ k ∷ rest → Apart rest → line_of place l ≡ by_letter place k rest
letter_reads place k l rest e p =
    ap (line_of place) e ∙ cond-true (parted rest) (by_letter place k rest) (Err UnknownKind) (apart_forth rest p)

-- comments

pub comment_written : (place : Place) (l text : List ℕ) → Ok (comment text) ≡ line_of place l → CommentLine l
comment_written place l text e =
    line_kinds (CommentLine l) place l (Ok (comment text)) e
    (λ rest m p q. record { rest = rest; written = m; apart = apart_back rest p })
    (λ rest m p q. absurd (omega (arith, ap kind q, problem_kind place (fields rest))))
    (λ rest m p q. absurd (omega (arith, ap kind q, edge_kind place (fields rest))))
    (λ q. absurd (omega (arith, ap kind q)))

pub comment_reads : (place : Place) (l : List ℕ) → CommentLine l → line_of place l ≡ Ok (comment l)
comment_reads place l s = letter_reads place 99 l s.rest s.written s.apart ∙ ap (λ x. Ok (comment x)) (sym s.written)

-- two numbers

between_back : (low high m : ℕ) (r : Result ℕ NumberFault) → Ok m ≡ between low high r → Ok m ≡ r
between_back low high m (Ok n) e =
    elim (cond_split (leb low n && leb n high) (Ok n) (Err Wrong) (Ok m) e) [ inl q ↦ q.1 | inr q ↦ let x = q.1 in cc ]
between_back low high m (Err x) e = e

both_back : (m n : ℕ) (r s : Result ℕ NumberFault) → Ok (m, n) ≡ both r s → (Ok m ≡ r) × (Ok n ≡ s)
both_back m n (Ok x) (Ok y) e = let h : ◌≡◌ {A = ℕ × ℕ} (m, n) (x, y) = cc in (ap (λ z. Ok z.0) h, ap (λ z. Ok z.1) h)
both_back m n (Ok x) (Err y) e = let z : ◌≡◌ {A = ℕ} 0 1 = cc in absurd (omega arith)
both_back m n (Err x) s e = let z : ◌≡◌ {A = ℕ} 0 1 = cc in absurd (omega arith)

record Two (fs : List (List ℕ)) (m n : ℕ) : Type 0 where
  v : List ℕ
  w : List ℕ
  are : fs ≡ v ∷ w ∷ []
  first : Ok m ≡ decimal v
  second : Ok n ≡ decimal w

numbers_back : (low a b m n : ℕ) (fs : List (List ℕ)) → Ok (m, n) ≡ numbers_of low a b fs → Two fs m n
numbers_back low a b m n [] e = let z : ◌≡◌ {A = ℕ} 0 1 = cc in absurd (omega arith)
numbers_back low a b m n (v ∷ []) e = let z : ◌≡◌ {A = ℕ} 0 1 = cc in absurd (omega arith)
numbers_back low a b m n (v ∷ w ∷ []) e =
    let p = both_back m n (number_of low a v) (number_of low b w) e in
    record { v = v; w = w; are = refl; first = between_back low a m (decimal v) p.0; second = between_back low b n (decimal w) p.1 }
numbers_back low a b m n (v ∷ w ∷ x ∷ xs) e = let z : ◌≡◌ {A = ℕ} 0 1 = cc in absurd (omega arith)

number_forth : (low high m : ℕ) (v : List ℕ) → low ≤ m → m ≤ high → Ok m ≡ decimal v → Ok m ≡ number_of low high v
number_forth low high m v l h e =
    let x : Ok m ≡ between low high (Ok m) = grind (arith, nat_tests) in x ∙ ap (between low high) e

numbers_forth : (low a b m n : ℕ) (v w : List ℕ) → (low ≤ m) × (m ≤ a) → (low ≤ n) × (n ≤ b) → Ok m ≡ decimal v → Ok n ≡ decimal w
    → Ok (m, n) ≡ numbers_of low a b (v ∷ w ∷ [])
numbers_forth low a b m n v w h k p q =
    ap (λ r. both r (Ok n)) (number_forth low a m v h.0 h.1 p) ∙ ap (λ s. both (number_of low a v) s) (number_forth low b n w k.0 k.1 q)

two_words : (j k m n : ℕ) (v w : List ℕ) → Ok m ≡ decimal v → Ok n ≡ decimal w → fields (gap j ++ (v ++ (gap k ++ w))) ≡ v ∷ w ∷ []
two_words j k m n v w p q =
    let a = decimal_word v m p in
    let b = decimal_word w n q in
    field_first j v (gap k ++ w) a.0 a.1 refl ∙ ap (λ x. v ∷ x) (field_last k w b.0 b.1)

record Gaps (l v w : List ℕ) : Type 0 where
  j : ℕ
  k : ℕ
  is : l ≡ gap j ++ (v ++ (gap k ++ w))

two_back : (l v w : List ℕ) → parted l ≡ true → fields l ≡ v ∷ w ∷ [] → Gaps l v w
two_back l v w p e =
    let f = field_back l v (w ∷ []) p e in
    let g = field_back f.r w [] f.apart f.others in
    let z : w ++ g.r ≡ w = ap (λ x. w ++ x) (fields_none g.r g.others) ∙ append-nil w in
    record { j = f.k; k = g.k; is = f.written ∙ ap (λ x. gap f.k ++ (v ++ x)) (g.written ∙ ap (λ x. gap g.k ++ x) z) }

-- the problem line

record Word (fs : List (List ℕ)) (m n : ℕ) : Type 0 where
  ns : List (List ℕ)
  are : fs ≡ codes "edge" ∷ ns
  numbers : Ok (m, n) ≡ numbers_of 0 512 2048 ns

problem_at_back : (place : Place) (m n : ℕ) (ns : List (List ℕ)) → Ok (problem m n) ≡ problem_at place ns → Ok (m, n) ≡ numbers_of 0 512 2048 ns
problem_at_back Start m n ns e = problem_of_is m n (numbers_of 0 512 2048 ns) e
problem_at_back (Within a b c) m n ns e = let z : ◌≡◌ {A = ℕ} 0 1 = cc in absurd (omega arith)

problem_back : (place : Place) (m n : ℕ) (fs : List (List ℕ)) → Ok (problem m n) ≡ problem_line place fs → Word fs m n
problem_back place m n [] e = let z : ◌≡◌ {A = ℕ} 0 1 = cc in absurd (omega arith)
problem_back place m n (w ∷ ns) e =
    elim (cond_split (bytes_eq w (codes "edge")) (problem_at place ns) (Err UnknownKind) (Ok (problem m n)) e) [
      | inl q ↦ record { ns = ns; are = ap (λ x. x ∷ ns) ((bytes_eq-Decides w (codes "edge")).0 q.0); numbers = problem_at_back place m n ns q.1 }
      | inr q ↦ let y = q.1 in let z : ◌≡◌ {A = ℕ} 0 1 = cc in absurd (omega arith)
    ]

problem_text : (l rest numbers v w : List ℕ) (i j k : ℕ) → l ≡ 112 ∷ rest → rest ≡ gap i ++ (codes "edge" ++ numbers) → numbers ≡ gap j ++ (v ++ (gap k ++ w))
    → l ≡ codes "p" ++ (gap i ++ (codes "edge" ++ (gap j ++ (v ++ (gap k ++ w)))))
problem_text l rest numbers v w i j k e p q = e ∙ ap (λ x. 112 ∷ x) (p ∙ ap (λ x. gap i ++ (codes "edge" ++ x)) q)

problem_rest : (place : Place) (l rest : List ℕ) (m n : ℕ) → l ≡ 112 ∷ rest → parted rest ≡ true → Ok (problem m n) ≡ problem_line place (fields rest) → ProblemLine l m n
problem_rest place l rest m n e p q =
    let b = problem_back place m n (fields rest) q in
    let f = field_back rest (codes "edge") b.ns p b.are in
    let t = numbers_back 0 512 2048 m n b.ns b.numbers in
    let h = numbers_within 0 512 2048 m n b.ns b.numbers in
    let g = two_back f.r t.v t.w f.apart (f.others ∙ t.are) in
    record {
      before_word = f.k;
      before_first = g.j;
      before_second = g.k;
      first = t.v;
      second = t.w;
      written = problem_text l rest f.r t.v t.w f.k g.j g.k e f.written g.is;
      first_is = numeral_back t.v m t.first;
      second_is = numeral_back t.w n t.second;
      few_points = h.0.1;
      few_edges = h.1.1;
    }

pub problem_written : (place : Place) (l : List ℕ) (m n : ℕ) → Ok (problem m n) ≡ line_of place l → ProblemLine l m n
problem_written place l m n e =
    line_kinds (ProblemLine l m n) place l (Ok (problem m n)) e
    (λ rest x p q. absurd (omega (arith, ap kind q)))
    (λ rest x p q. problem_rest place l rest m n x p q)
    (λ rest x p q. absurd (omega (arith, ap kind q, edge_kind place (fields rest))))
    (λ q. absurd (omega (arith, ap kind q)))

pub problem_reads : (l : List ℕ) (m n : ℕ) → ProblemLine l m n → line_of Start l ≡ Ok (problem m n)
problem_reads l m n s =
    let first = numeral_forth s.first m s.first_is in
    let second = numeral_forth s.second n s.second_is in
    let words = field_first s.before_word (codes "edge") (gap s.before_first ++ (s.first ++ (gap s.before_second ++ s.second))) (refl, (refl, (refl, (refl, tt)))) (omega arith) refl
    ∙ ap (λ x. codes "edge" ∷ x) (two_words s.before_first s.before_second m n s.first s.second first second) in
    let low : 0 ≤ m = omega arith in
    let also : 0 ≤ n = omega arith in
    ap (line_of Start) s.written ∙ ap (problem_line Start) words
    ∙ sym (ap problem_of (numbers_forth 0 512 2048 m n s.first s.second (low, s.few_points) (also, s.few_edges) first second))

-- edges

same_pair : (a b c d : ℕ) (r : Result (ℕ × ℕ) NumberFault) → a ≡ c → b ≡ d → Ok (c, d) ≡ r → Ok (a, b) ≡ r
same_pair a b c d r p q e = ap (λ x. Ok (x, b)) p ∙ ap (λ x. Ok (c, x)) q ∙ e

edge_back : (points edges laid m n : ℕ) (fs : List (List ℕ)) → Ok (edge m n) ≡ edge_line (Within points edges laid) fs → Ok (m + 1, n + 1) ≡ numbers_of 1 points points fs
edge_back points edges laid m n fs e = elim (cases_lt laid edges) [
  | inl h ↦
      let r = edge_of_is m n (numbers_of 1 points points fs) (e ∙ edge_in_place points edges laid fs h) in
      let w = numbers_within 1 points points r.0 r.1 fs r.2 in
      let x : m + 1 ≡ r.0 = omega (arith, r.3, w.0.0) in
      let y : n + 1 ≡ r.1 = omega (arith, r.4, w.1.0) in
      same_pair (m + 1) (n + 1) r.0 r.1 (numbers_of 1 points points fs) x y r.2
  | inr h ↦ absurd (omega (arith, ap kind (e ∙ edge_beyond points edges laid fs h)))
]

edge_rest : (points edges laid m n : ℕ) (l rest : List ℕ) → l ≡ 101 ∷ rest → parted rest ≡ true → Ok (edge m n) ≡ edge_line (Within points edges laid) (fields rest) → EdgeLine points l m n
edge_rest points edges laid m n l rest e p q =
    let b = edge_back points edges laid m n (fields rest) q in
    let t = numbers_back 1 points points (m + 1) (n + 1) (fields rest) b in
    let h = numbers_within 1 points points (m + 1) (n + 1) (fields rest) b in
    let g = two_back rest t.v t.w p t.are in
    record {
      before_first = g.j;
      before_second = g.k;
      first = t.v;
      second = t.w;
      written = e ∙ ap (λ x. 101 ∷ x) g.is;
      first_is = numeral_back t.v (m + 1) t.first;
      second_is = numeral_back t.w (n + 1) t.second;
      first_point = omega (arith, h.0.1);
      second_point = omega (arith, h.1.1);
    }

pub edge_written : (points edges laid m n : ℕ) (l : List ℕ) → Ok (edge m n) ≡ line_of (Within points edges laid) l → EdgeLine points l m n
edge_written points edges laid m n l e =
    line_kinds (EdgeLine points l m n) (Within points edges laid) l (Ok (edge m n)) e
    (λ rest x p q. absurd (omega (arith, ap kind q)))
    (λ rest x p q. absurd (omega (arith, ap kind q, problem_kind (Within points edges laid) (fields rest))))
    (λ rest x p q. edge_rest points edges laid m n l rest x p q)
    (λ q. absurd (omega (arith, ap kind q)))

pub edge_reads : (points edges laid m n : ℕ) (l : List ℕ) → laid < edges → EdgeLine points l m n → line_of (Within points edges laid) l ≡ Ok (edge m n)
edge_reads points edges laid m n l h s =
    let first = numeral_forth s.first (m + 1) s.first_is in
    let second = numeral_forth s.second (n + 1) s.second_is in
    let words = two_words s.before_first s.before_second (m + 1) (n + 1) s.first s.second first second in
    let f : 1 ≤ m + 1 = omega arith in
    let g : m + 1 ≤ points = omega (arith, s.first_point) in
    let f' : 1 ≤ n + 1 = omega arith in
    let g' : n + 1 ≤ points = omega (arith, s.second_point) in
    let x : m + 1 - 1 ≡ m = omega arith in
    let y : n + 1 - 1 ≡ n = omega arith in
    ap (line_of (Within points edges laid)) s.written ∙ ap (edge_line (Within points edges laid)) words
    ∙ edge_in_place points edges laid (s.first ∷ s.second ∷ []) h
    ∙ sym (ap edge_of (numbers_forth 1 points points (m + 1) (n + 1) s.first s.second (f, g) (f', g') first second))
    ∙ ap (λ a. Ok (edge a (n + 1 - 1))) x ∙ ap (λ a. Ok (edge m a)) y
