-- `take_line` takes the first line off the bytes that are left. Assumes nothing.
use Rattle.std.proofs.Common.{◌≡◌, ℕ, ◌+◌, ◌-◌, ◌<◌, ◌≤◌, ◌⊎◌, List, length, take, drop, Some, sym, refl, ap, ◌∙◌, inl, inr, arith}
use Rattle.std.proofs.lemmas.List.{take_rest}
use Rattle.layout.specs.Layout.{first_of}
use Rattle.layout.specs.Plans.{number_after}
use Rattle.layout.proofs.Splits.{line_read}
use Rattle.plan.proofs.reader.Reader.take_line.Goals as goal
use Rattle.plan.proofs.reader.Reader.take_line.Goals.{then-end-rest, else-end-rest}

pub returns : goal.returns
returns c =
    let l = c.args.self.now.bytes.now in
    let at = c.args.self.now.at in
    let n = c.until-end.result in
    let rest : List ℕ = take (length l - at) (drop at l) in
    let way : ((n < length rest) × (c.if-end-rest.step ≡ n + 1)) ⊎ ((length rest ≤ n) × (c.if-end-rest.step ≡ n)) =
    elim c.if-end-rest.branch [ then-end-rest w ↦ inl (w.if-end-rest.true, w.step-is) | else-end-rest w ↦ inr (w.if-end-rest.false, w.step-is) ] in
    let p = line_read l rest at n c.if-end-rest.step (omega arith) (take_rest l at) c.until-end.ensures.value c.until-end.ensures.within way in
    let z : n - 0 ≡ n = omega arith in
    record {
      value = ap (λ k. Some (take k rest)) z ∙ sym (ap first_of p.0);
      unread = p.1;
      place = refl;
      number = sym (ap (λ ls. number_after ls c.args.self.now.number) p.0);
    }
