-- The bits of words: one bit of a word, as a map from labels of kind X to any of them. Assumes nothing.
use Rattle.std.proofs.Common.{◌≡◌, ℕ, zero, suc, ◌+◌, ◌*◌, ◌/◌, ◌%◌, ◌^◌, ◌<◌, Bool, true, cond, ◌&&◌, eqb, ◌≢◌, ◌⊎◌, sym, refl, ap, ◌∙◌, ap₂, inl, inr, ⊎_elim, mod-lt, arith}
use native.Mathlib.Nat.{zero-div}
use lib.Bits.{bit_xor, xor_shr, xor_mod}
use Rattle.std.proofs.lemmas.Bool.{cases_eq, cases_lt, and_parts, eq-eqb, ne_eqb, eqb-true}
use Rattle.label.specs.declared.xor.Xor.{Xor}
use Rattle.label.specs.Kinds.{word_label, xors}
use Rattle.circulation.specs.Units.{unit_word}

-- the bit k of v
abbrev pub bit : ℕ → ℕ → ℕ
bit k v = (v / 2 ^ k) % 2

bit_low : (k v : ℕ) → bit k v < 2
bit_low k v = mod-lt (v / 2 ^ k) (omega arith)

bit_xor_lem : (k a b : ℕ) → bit k (bit_xor a b) ≡ bit_xor (bit k a) (bit k b)
bit_xor_lem k a b = ap (λ n. n % 2) (xor_shr a b k) ∙ xor_mod (a / 2 ^ k) (b / 2 ^ k) 1

-- m where the bit k is one, else zero
abbrev pub picked : ℕ → Xor → Xor → Xor
picked k m v = cond (eqb (bit k v.bits) 1) m (word_label 0)

two_bits : (p : ℕ) → p < 2 → (p ≡ 0) ⊎ (p ≡ 1)
two_bits p h = ⊎_elim (λ l. inl (omega arith)) (λ l. inr (omega arith)) (cases_lt p 1)

picked_cases : (m : Xor) (p q : ℕ) → (p ≡ 0) ⊎ (p ≡ 1) → (q ≡ 0) ⊎ (q ≡ 1) → cond (eqb (bit_xor p q) 1) m (word_label 0) ≡ xors.sum (cond (eqb p 1) m (word_label 0)) (cond (eqb q 1) m (word_label 0))
picked_cases m p q (inl e) (inl f) = rw (e, f) refl
picked_cases m p q (inl e) (inr f) = rw (e, f) (sym (xors.unit m))
picked_cases m p q (inr e) (inl f) = rw (e, f) (sym (xors.comm m (word_label 0) ∙ xors.unit m))
picked_cases m p q (inr e) (inr f) = rw (e, f) (sym (xors.inverse m))

nothing : (k : ℕ) → bit k 0 ≡ 0
nothing k = ap (λ n. n % 2) (zero-div (2 ^ k))

-- it keeps zero and sums
pub picked_zero : (k : ℕ) (m : Xor) → picked k m (word_label 0) ≡ word_label 0
picked_zero k m = ap (λ n. cond (eqb n 1) m (word_label 0)) (nothing k)

pub picked_sum : (k : ℕ) (m a b : Xor) → picked k m (xors.sum a b) ≡ xors.sum (picked k m a) (picked k m b)
picked_sum k m a b = ap (λ n. cond (eqb n 1) m (word_label 0)) (bit_xor_lem k a.bits b.bits) ∙ picked_cases m _ _ (two_bits _ (bit_low k a.bits)) (two_bits _ (bit_low k b.bits))

-- tests of all numbers below n
abbrev all_below : ℕ → (ℕ → Bool) → Bool
all_below zero p = true
all_below (suc n) p = p n && all_below n p

all_at : (n : ℕ) (p : ℕ → Bool) → all_below n p ≡ true → (k : ℕ) → k < n → p k ≡ true
all_at zero p e k h = absurd (omega arith)
all_at (suc n) p e k h = let w = and_parts _ _ e in ⊎_elim (λ same. rw same w.0) (λ ne. all_at n p w.1 k (omega (arith, ne))) (cases_eq k n)

-- the bits of the powers of two below 2 ^ 64
bits_test : Bool
bits_test = all_below 64 (λ j. all_below 64 (λ k. eqb (bit k (2 ^ j)) (cond (eqb j k) 1 0)))

bits_hold : bits_test ≡ true
unfolding bits_test
bits_hold = refl

power_bit : (j k : ℕ) → j < 64 → k < 64 → bit k (2 ^ j) ≡ cond (eqb j k) 1 0
unfolding bits_test
power_bit j k h l = eqb-true _ _ (all_at 64 (λ k. eqb (bit k (2 ^ j)) (cond (eqb j k) 1 0)) (all_at 64 (λ j. all_below 64 (λ k. eqb (bit k (2 ^ j)) (cond (eqb j k) 1 0))) bits_hold j h) k l)

-- the word j has the bit of i, in the round of i, exactly if it is the word i
pub own_bit : (i : ℕ) (m : Xor) → picked (i % 64) m (word_label (unit_word (i / 64) i)) ≡ m
own_bit i m =
    ap (λ b. picked (i % 64) m (word_label (cond b (2 ^ (i % 64)) 0))) (eq-eqb (i / 64) (i / 64) refl)
    ∙ ap (λ n. cond (eqb n 1) m (word_label 0)) (power_bit (i % 64) (i % 64) (mod-lt i (omega arith)) (mod-lt i (omega arith)) ∙ ap (λ b. cond b 1 0) (eq-eqb (i % 64) (i % 64) refl))

pub other_bit : (i j : ℕ) (m : Xor) → j ≢ i → picked (i % 64) m (word_label (unit_word (i / 64) j)) ≡ word_label 0
other_bit i j m ne =
    ⊎_elim
    (λ same.
    ap (λ b. picked (i % 64) m (word_label (cond b (2 ^ (j % 64)) 0))) (eq-eqb _ _ same)
    ∙ ap (λ n. cond (eqb n 1) m (word_label 0)) (power_bit (j % 64) (i % 64) (mod-lt j (omega arith)) (mod-lt i (omega arith)) ∙ ap (λ b. cond b 1 0) (ne_eqb (j % 64) (i % 64) (λ e. ne (sym (whole j) ∙ ap₂ (λ q r. q * 64 + r) same e ∙ whole i)))))
    (λ off.
    ap (λ b. picked (i % 64) m (word_label (cond b (2 ^ (j % 64)) 0))) (ne_eqb _ _ off)
    ∙ ap (λ n. cond (eqb n 1) m (word_label 0)) (nothing (i % 64)))
    (cases_eq (j / 64) (i / 64))
  where
    whole : (n : ℕ) → (n / 64) * 64 + n % 64 ≡ n
    whole n = omega arith
