-- `field` takes the next field off the text. Assumes nothing.
use Rattle.std.proofs.Common.{◌≡◌, ℕ, ◌-◌, List, length, take, drop, Some, sym, ap, ◌∙◌, arith}
use Rattle.std.proofs.lemmas.List.{take_rest}
use Rattle.std.proofs.lemmas.Bool.{eqb-false}
use Rattle.layout.specs.Layout.{fields}
use Rattle.layout.proofs.Splits.{blanks, field_read}
use Rattle.plan.proofs.fields.Fields.field.Goals as goal

pub returns : goal.returns
returns c =
    let l = c.args.self.now.rest.now in
    let n = c.until-end.result in
    let ne = eqb-false (length l) 0 (sym c.if-is_empty.ensures) in
    let text : List ℕ = take (length l - c.spaces-blanks.result) (drop c.spaces-blanks.result l) in
    let e : text ≡ drop (blanks l) l = take_rest l c.spaces-blanks.result ∙ ap (λ k. drop k l) c.spaces-blanks.ensures.value in
    let p = field_read l text n (omega arith) e c.until-end.ensures.value in
    let z : n - 0 ≡ n = omega arith in
    record { value = ap (λ k. Some (take k text)) z ∙ p.0; rest = ap fields (take_rest text n) ∙ p.1 }
