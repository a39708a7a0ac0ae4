-- What the fields that are read say of the numbers of a line. Assumes nothing.
use Rattle.std.proofs.Common.{◌≡◌, ℕ, ◌<◌, ◌≤◌, List, [], ◌∷◌, length, Some, Ok, Err, Result, sym, refl, ap, ◌∙◌, arith}
use Rattle.layout.specs.declared.faults.NumberFault.{NumberFault}
use Rattle.layout.specs.declared.faults.NumberFault.TheVariants.{Wrong}
use Rattle.layout.specs.Layout.{fields, first_of, rest_of, first_number, number_of, between, decimal, numbers_of, both, end_of}
use Rattle.std.proofs.lemmas.Bool.Decides.{nat_tests}
use Rattle.layout.proofs.Splits.{fields_step}

pub first_some : (fs : List (List ℕ)) (w : List ℕ) → Some w ≡ first_of fs → fs ≡ w ∷ rest_of fs
first_some [] w e = cc
first_some (v ∷ vs) w e = cc

-- nothing is left only of an empty text
pub more_left : (l : List ℕ) → 0 < length l → Err Wrong ≡ end_of (fields l)
more_left l h = sym (ap end_of (fields_step l h))

-- the first of three results that is a fault, or else the two numbers
abbrev pub chain : Result ℕ NumberFault → Result ℕ NumberFault → Result (Unit {0}) NumberFault → Result (ℕ × ℕ) NumberFault
chain (Err e) s t = Err e
chain (Ok m) (Err e) t = Err e
chain (Ok m) (Ok n) (Err e) = Err e
chain (Ok m) (Ok n) (Ok u) = Ok (m, n)

chain_one : (r : Result ℕ NumberFault) (t : Result (Unit {0}) NumberFault) → Err Wrong ≡ chain r (Err Wrong) t
chain_one (Ok m) t = refl
chain_one (Err Wrong) t = refl

chain_two : (r s : Result ℕ NumberFault) → both r s ≡ chain r s (Ok tt)
chain_two (Ok m) (Ok n) = refl
chain_two (Ok m) (Err e) = refl
chain_two (Err e) s = refl

chain_more : (r s : Result ℕ NumberFault) → Err Wrong ≡ chain r s (Err Wrong)
chain_more (Ok m) (Ok n) = refl
chain_more (Ok m) (Err Wrong) = refl
chain_more (Err Wrong) s = refl

pub numbers_chain : (low a b : ℕ) (fs : List (List ℕ))
    → numbers_of low a b fs ≡ chain (first_number low a fs) (first_number low b (rest_of fs)) (end_of (rest_of (rest_of fs)))
numbers_chain low a b [] = refl
numbers_chain low a b (v ∷ []) = chain_one (number_of low a v) (end_of [])
numbers_chain low a b (v ∷ w ∷ []) = chain_two (number_of low a v) (number_of low b w)
numbers_chain low a b (v ∷ w ∷ x ∷ xs) = chain_more (number_of low a v) (number_of low b w)

module _ (low a b : ℕ) (fs : List (List ℕ)) where
  pub bad_first : (e : NumberFault) → Err e ≡ first_number low a fs → Err e ≡ numbers_of low a b fs
  bad_first e p =
      sym (numbers_chain low a b fs ∙ ap (λ r. chain r (first_number low b (rest_of fs)) (end_of (rest_of (rest_of fs)))) (sym p))

  pub after_first : (m : ℕ) (gs : List (List ℕ)) → Ok m ≡ first_number low a fs → gs ≡ rest_of fs
      → numbers_of low a b fs ≡ chain (Ok m) (first_number low b gs) (end_of (rest_of gs))
  after_first m gs p q =
      numbers_chain low a b fs
      ∙ ap (λ r. chain r (first_number low b (rest_of fs)) (end_of (rest_of (rest_of fs)))) (sym p)
      ∙ ap (λ hs. chain (Ok m) (first_number low b hs) (end_of (rest_of hs))) (sym q)

  pub bad_second : (m : ℕ) (gs : List (List ℕ)) (e : NumberFault) → Ok m ≡ first_number low a fs → gs ≡ rest_of fs
      → Err e ≡ first_number low b gs → Err e ≡ numbers_of low a b fs
  bad_second m gs e p q r = sym (after_first m gs p q ∙ ap (λ s. chain (Ok m) s (end_of (rest_of gs))) (sym r))

  pub after_second : (m n : ℕ) (gs hs : List (List ℕ)) → Ok m ≡ first_number low a fs → gs ≡ rest_of fs
      → Ok n ≡ first_number low b gs → hs ≡ rest_of gs → numbers_of low a b fs ≡ chain (Ok m) (Ok n) (end_of hs)
  after_second m n gs hs p q r s =
      after_first m gs p q ∙ ap (λ t. chain (Ok m) t (end_of (rest_of gs))) (sym r) ∙ ap (λ x. chain (Ok m) (Ok n) (end_of x)) (sym s)

between_within : (low high m : ℕ) (r : Result ℕ NumberFault) → Ok m ≡ between low high r → (low ≤ m) × (m ≤ high)
between_within low high m (Ok n) e = grind (arith, nat_tests)
between_within low high m (Err x) e = grind arith

both_within : (low a b m n : ℕ) (v w : List ℕ) (r s : Result ℕ NumberFault) → r ≡ number_of low a v → s ≡ number_of low b w
    → Ok (m, n) ≡ both r s → ((low ≤ m) × (m ≤ a)) × ((low ≤ n) × (n ≤ b))
both_within low a b m n v w (Ok x) (Ok y) p q e =
    let h : ◌≡◌ {A = ℕ × ℕ} (m, n) (x, y) = cc in
    (between_within low a m (decimal v) (ap (λ z. Ok z.0) h ∙ p), between_within low b n (decimal w) (ap (λ z. Ok z.1) h ∙ q))
both_within low a b m n v w (Ok x) (Err y) p q e = grind arith
both_within low a b m n v w (Err x) s p q e = grind arith

-- two numbers that are read lie in their ranges
pub numbers_within : (low a b m n : ℕ) (fs : List (List ℕ)) → Ok (m, n) ≡ numbers_of low a b fs → ((low ≤ m) × (m ≤ a)) × ((low ≤ n) × (n ≤ b))
numbers_within low a b m n [] e = grind arith
numbers_within low a b m n (v ∷ []) e = grind arith
numbers_within low a b m n (v ∷ w ∷ []) e = both_within low a b m n v w (number_of low a v) (number_of low b w) refl refl e
numbers_within low a b m n (v ∷ w ∷ x ∷ xs) e = grind arith
