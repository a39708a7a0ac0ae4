-- `end` refuses a text that is not empty. Assumes nothing.
use Rattle.std.proofs.Common.{length, sym, arith}
use Rattle.std.proofs.lemmas.Bool.{eqb-false}
use Rattle.layout.proofs.Numbers.{more_left}
use Rattle.plan.proofs.fields.Fields.end.Goals as goal

pub returns-then-not-is_empty : goal.returns-then-not-is_empty
returns-then-not-is_empty c =
    let ne = eqb-false (length c.args.self.now.rest.now) 0 (sym c.if-not-is_empty.ensures) in
    more_left c.args.self.now.rest.now (omega arith)
