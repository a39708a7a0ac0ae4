-- The number that digits write, as a relation and as computed. Assumes nothing.
use Rattle.std.proofs.Common.{◌≡◌, ℕ, ◌+◌, ◌*◌, ◌<◌, ◌&&◌, leb, List, [], ◌∷◌, ◌++◌, length, Ok, Err, Result, sym, refl, ap, ◌∙◌, subst, inl, inr, arith}
use Rattle.std.proofs.lemmas.List.{append-nil, append_assoc}
use Rattle.std.proofs.lemmas.Bool.{and_parts, leb-true}
use Rattle.std.proofs.lemmas.Bool.Decides.{nat_tests}
use Rattle.layout.specs.declared.faults.NumberFault.{NumberFault}
use Rattle.layout.specs.declared.faults.NumberFault.TheVariants.{Wrong}
use Rattle.layout.specs.Layout.{decimal, digits_after, digit_of, with_digit}
use Rattle.layout.specs.Grammar.{Digits, Numeral}
use Rattle.layout.specs.Grammar as grammar
use Rattle.layout.proofs.Decimals.{after_err, digit_small, decimal_short}
use Rattle.layout.proofs.LineKinds.{cond_split}

digit_is : (b d : ℕ) → Ok d ≡ digit_of b → b ≡ 48 + d
digit_is b d e = grind (arith, nat_tests)

digit_reads : (d : ℕ) → d < 10 → digit_of (48 + d) ≡ Ok d
digit_reads d h = grind (arith, nat_tests)

digit_back : (b : ℕ) (u bs : List ℕ) (m n : ℕ) (r : Result ℕ NumberFault) → Digits u m
    → ((k : ℕ) → Digits (u ++ b ∷ []) k → Ok n ≡ digits_after (Ok k) bs → Digits ((u ++ b ∷ []) ++ bs) n)
    → r ≡ digit_of b → Ok n ≡ digits_after (with_digit r m) bs → Digits (u ++ b ∷ bs) n
digit_back b u bs m n (Ok d) h others p e =
    let one = subst (λ x. Digits (u ++ x ∷ []) (m * 10 + d)) (sym (digit_is b d p)) (grammar.one_more u m d h (digit_small b d p)) in
    subst (λ x. Digits x n) (append_assoc u (b ∷ []) bs) (others (m * 10 + d) one e)
digit_back b u bs m n (Err x) h others p e = let q = e ∙ after_err x bs in let z : ◌≡◌ {A = ℕ} 0 1 = cc in absurd (omega arith)

digits_back : (w u : List ℕ) (m n : ℕ) → Digits u m → Ok n ≡ digits_after (Ok m) w → Digits (u ++ w) n
digits_back [] u m n h e = let same : m ≡ n = cc in subst (λ x. Digits x n) (sym (append-nil u)) (subst (Digits u) same h)
digits_back (b ∷ bs) u m n h e = digit_back b u bs m n (digit_of b) h (λ k. digits_back bs (u ++ b ∷ []) k n) refl e

digits_append : (v w : List ℕ) (r : Result ℕ NumberFault) → digits_after r (v ++ w) ≡ digits_after (digits_after r v) w
digits_append [] w r = refl
digits_append (b ∷ bs) w (Ok n) = digits_append bs w (with_digit (digit_of b) n)
digits_append (b ∷ bs) w (Err e) = sym (after_err e w)

digits_forth : (v : List ℕ) (n : ℕ) → Digits v n → digits_after (Ok 0) v ≡ Ok n
digits_forth v n grammar.no_digit = refl
digits_forth v n (grammar.one_more u m d h less) =
    digits_append u ((48 + d) ∷ []) (Ok 0) ∙ ap (λ r. digits_after r ((48 + d) ∷ [])) (digits_forth u m h) ∙ ap (λ r. with_digit r m) (digit_reads d less)

pub numeral_back : (v : List ℕ) (n : ℕ) → Ok n ≡ decimal v → Numeral v n
numeral_back v n e =
    elim (cond_split (leb 1 (length v) && leb (length v) 4) (digits_after (Ok 0) v) (Err Wrong) (Ok n) e) [
      | inl q ↦
          let p = and_parts (leb 1 (length v)) (leb (length v) 4) q.0 in
          record { digits = digits_back v [] 0 n grammar.no_digit q.1; some = leb-true 1 (length v) p.0; few = leb-true (length v) 4 p.1 }
      | inr q ↦ let y = q.1 in let z : ◌≡◌ {A = ℕ} 0 1 = cc in absurd (omega arith)
    ]

pub numeral_forth : (v : List ℕ) (n : ℕ) → Numeral v n → Ok n ≡ decimal v
numeral_forth v n s = sym (decimal_short v s.some s.few ∙ digits_forth v n s.digits)
