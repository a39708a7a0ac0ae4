-- The digits of a number, one by one. Assumes nothing.
use Rattle.std.proofs.Common.{◌≡◌, ℕ, ◌+◌, ◌/◌, ◌%◌, ◌<◌, ◌≤◌, [], ◌∷◌, ◌++◌, length, map, refl, sym, ap, ◌∙◌, arith}
use Rattle.std.specs.Int.Digits.{digits_of}
use Rattle.std.proofs.lemmas.Int.Digits.{digits_of_step, length-digits_of-le}
use Rattle.std.proofs.lemmas.List.{length-map, length_push, map_push}
use Rattle.written.specs.declared.page.Page.{Page}
use Rattle.written.specs.Lines.{decimal}
use Rattle.written.specs.Pages.{Puts}
use Rattle.written.proofs.Putting.{puts_none, puts_then, puts_as}

decimal_none : decimal 0 ≡ []
unfolding decimal
decimal_none = refl

-- the digits of a tenth, and the last digit
decimal_step : (n : ℕ) → 0 < n → decimal n ≡ decimal (n / 10) ++ ((48 + n % 10) ∷ [])
unfolding decimal
decimal_step n some = ap (map (λ d. 48 + d)) (digits_of_step 10 n (omega arith) some) ∙ map_push (λ d. 48 + d) (digits_of 10 (n / 10)) (n % 10)

-- below 100,000 there are at most five
pub decimal_short : (n : ℕ) → n < 100000 → length (decimal n) ≤ 5
unfolding decimal
decimal_short n few = omega (arith, length-map (digits_of 10 n) (λ d. 48 + d), length-digits_of-le 10 5 n (omega arith) few)

-- where a number is 0, nothing is put
pub puts_zero : (p : Page) (n : ℕ) → n ≡ 0 → Puts p (decimal n) p
puts_zero p n e = puts_as (sym (ap decimal e ∙ decimal_none)) (puts_none p)

-- a tenth is put, and then the last digit
pub puts_digit : {p q r : Page} (n : ℕ) → 0 < n → Puts p (decimal (n / 10)) q → Puts q ((48 + n % 10) ∷ []) r → Puts p (decimal n) r
puts_digit n some one more = puts_as (sym (decimal_step n some)) (puts_then one more)

-- the place before the last digit
pub digit_place : {p q : Page} (n : ℕ) → 0 < n → n < 100000 → Puts p (decimal (n / 10)) q → q.at < p.at + 5
digit_place n some few one =
    let long = length_push (decimal (n / 10)) (48 + n % 10) in
    let same = ap length (decimal_step n some) in
    let e = one.put.behind in
    omega (arith, decimal_short n few)
