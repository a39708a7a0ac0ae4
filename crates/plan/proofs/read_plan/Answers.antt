-- The answer of `read_plan` obeys the law of reading. Assumes nothing.
use Rattle.std.proofs.Common.{◌≡◌, rules}
use Rattle.table.specs.Laying.{table_tracks}
use Rattle.layout.specs.Plans.{plan_of, answer_to, planned}
use Rattle.layout.proofs.Law.{answered}
use Rattle.plan.proofs.read_plan.Goals as goal

pub returns : goal.returns
returns c =
    let v : c.lay_plan-answer.result ≡ answer_to (plan_of c.args.bytes.now) = search rules in
    let t : table_tracks c.clear_refused.new.laid ≡ planned (plan_of c.args.bytes.now) = search rules in
    record { value = v; tracks = t; law = answered c.args.bytes.now c.lay_plan-answer.result (table_tracks c.clear_refused.new.laid) v t }
