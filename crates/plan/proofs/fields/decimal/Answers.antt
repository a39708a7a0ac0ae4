-- The steps of the loop of `decimal`. Assumes nothing.
use Rattle.std.proofs.Common.{length, sym, ◌∙◌, arith}
use Rattle.std.proofs.lemmas.Result.{err_from_is_err_and}
use Rattle.std.proofs.lemmas.Bool.{eqb-false}
use Rattle.layout.proofs.Decimals.{digits_end, decimal_short}
use Rattle.plan.proofs.fields.decimal.Goals as goal

pub returns-in_err-value : goal.returns-in_err-value
returns-in_err-value c =
    let p = err_from_is_err_and c.from_residual.result c.from_residual.ensures.1 in
    let ne = eqb-false (length c.args.field.now) 0 (sym c.if-is_empty.ensures) in
    rw (p.1, p.2) (sym (decimal_short c.args.field.now (omega arith) (omega arith) ∙ sym c.loop-byte.invariant.0 ∙ digits_end c.loop-byte.value c.args.field.now c.loop-byte.byte-index _ (omega arith) c.in_err-value.ensures))
