-- The step of a loop over digits. Assumes nothing.
use Rattle.std.proofs.Common.{◌≡◌, ℕ, ◌+◌, ◌<◌, ◌≤◌, ◌&&◌, leb, List, [], ◌∷◌, length, get_or, drop, Ok, Err, sym, refl, ap, ◌∙◌, arith}
use Rattle.std.proofs.lemmas.List.{at_drop_more}
use Rattle.std.proofs.lemmas.Bool.{cond-true, and_from, le-leb}
use Rattle.std.proofs.lemmas.Bool.Decides.{nat_tests}
use Rattle.layout.specs.Layout.{digits_after, digit_of, with_digit, decimal}
use Rattle.layout.specs.declared.faults.NumberFault.{NumberFault}
use Rattle.layout.specs.declared.faults.NumberFault.TheVariants.{Wrong}

pub after_err : (e : NumberFault) (xs : List ℕ) → digits_after (Err e) xs ≡ Err e
after_err e [] = refl
after_err e (b ∷ bs) = refl

pub digits_end : (n : ℕ) (xs : List ℕ) (i : ℕ) (e : NumberFault) → i < length xs → Err e ≡ digit_of (get_or xs i 0)
    → digits_after (Ok n) (drop i xs) ≡ Err e
digits_end n xs i e h p =
    at_drop_more (digits_after (Ok n)) xs i 0 h ∙ ap (λ r. digits_after (with_digit r n) (drop (i + 1) xs)) (sym p) ∙ after_err e (drop (i + 1) xs)

pub digit_small : (b d : ℕ) → Ok d ≡ digit_of b → d < 10
digit_small b d e = grind (arith, nat_tests)

pub decimal_short : (xs : List ℕ) → 1 ≤ length xs → length xs ≤ 4 → decimal xs ≡ digits_after (Ok 0) xs
decimal_short xs l h = cond-true (leb 1 (length xs) && leb (length xs) 4) (digits_after (Ok 0) xs) (Err Wrong) (and_from _ _ (le-leb 1 (length xs) l) (le-leb (length xs) 4 h))
