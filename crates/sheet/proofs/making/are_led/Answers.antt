use Rattle.std.proofs.Common.{rules, ◌≡◌, ℕ, ◌<◌, List, length, get_or, arith, ap, sym, ◌∙◌, zero-add}
use Rattle.std.specs.List.{enumerate_from}
use Rattle.std.proofs.lemmas.Iterator.{YieldsList-from_slice}
use Rattle.std.proofs.lemmas.Iterator.Consumers.{YieldsList-from_enumerate}
use Rattle.std.proofs.lemmas.Iterator.Adapters.{serves_from_places}
use Rattle.std.proofs.lemmas.List.{get_or_default}
use Rattle.std.proofs.lemmas.List.FromFn.{get_or-enumerate_from, length-enumerate_from}
use Rattle.sheet.specs.declared.mark.Mark.{Mark}
use Rattle.sheet.specs.declared.mark.Mark.TheVariants.{Shut}
use Rattle.sheet.specs.Marks.{mark_at}
use Rattle.sheet.proofs.making.are_led.Goals as goal

-- a mark that is given with its number
numbered : (ms : List Mark) (k : ℕ) (x : ℕ × Mark) → k < length (enumerate_from 0 ms) → x ≡ get_or (enumerate_from 0 ms) k x → (x.0 < length ms) × (x.1 ≡ mark_at ms x.0)
numbered ms k x h e =
    let low : k < length ms = omega (arith, length-enumerate_from 0 ms) in
    let is = e ∙ get_or-enumerate_from 0 ms k x low in
    let at : x.0 ≡ k = ap (λ p. p.0) is ∙ zero-add k in
    (omega (arith, at), ap (λ p. p.1) is ∙ get_or_default ms k x.1 Shut low ∙ ap (mark_at ms) (sym at))

pub all-requires-clause-callable : goal.all-requires-clause-callable
all-requires-clause-callable c =
    serves_from_places (YieldsList-from_enumerate (YieldsList-from_slice c.args.marks.now cc) cc) (λ x q h. search rules) (λ x k h e. let w = numbered c.args.marks.now k (x.0, x.1.now) h e in search rules)
