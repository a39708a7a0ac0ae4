-- A point that `edge` reads is at least 1, so it can be counted from 0. Assumes nothing.
use Rattle.layout.specs.Layout.{fields}
use Rattle.layout.proofs.Numbers.{numbers_within}
use Rattle.plan.proofs.line.edge.Goals as goal

pub overflow_sub-result : goal.overflow_sub-result
overflow_sub-result c =
    (numbers_within 1 c.in-Some.points c.in-Some.points c.in_ok-first.first c.in_ok-first.second (fields c.of-fields.result.rest.now) c.in_ok-first.ensures).0.0

pub overflow_sub-result-2 : goal.overflow_sub-result-2
overflow_sub-result-2 c =
    (numbers_within 1 c.in-Some.points c.in-Some.points c.in_ok-first.first c.in_ok-first.second (fields c.of-fields.result.rest.now) c.in_ok-first.ensures).1.0
