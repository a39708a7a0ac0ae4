use Rattle.std.proofs.Common.{◌+◌, length, take, sym, ap, subst, arith}
use Rattle.graph.specs.Representing.{Represents}
use Rattle.graph.specs.Yards.{shut_also}
use Rattle.yard.specs.declared.partition.Partition.{Partition}
use Rattle.yard.specs.Meaning.{yard_tracks}
use Rattle.yard.proofs.Records.{length_shut_also, item_low, item_is}
use Rattle.yard.proofs.Passes.{pass_start, pass_among, pass_others, pass_end}
use Rattle.yard.proofs.Yard.partition_without.Goals as goal
use Rattle.yard.proofs.Yard.partition_without.Goals.{then-not-contains, else-not-contains}

pub loop-number-init : goal.loop-number-init
loop-number-init c = pass_start c.new-points.result.reps c.new-points.ensures

pub loop-number-preserved : goal.loop-number-preserved
loop-number-preserved c =
    let y = yard_tracks c.args.self.now in
    let also = c.args.also.now in
    let k = c.loop-number.number-counter in
    let low = item_low y _ c.deref-one-items.ensures.value k c.loop-number-test.true in
    let at = item_is y _ c.deref-one-items.ensures.value k c.loop-number-test.true in
    let good : Partition → Type 0 = λ points. Represents points.reps (take (k + 1) (shut_also y also)) in
    elim c.if-not-contains.branch [
      | then-not-contains w ↦ subst good (sym w.points-is) (pass_others y also k low _ _ _ _ (sym w.if-not-contains.ensures.value) w.take_in.ensures at c.loop-number.invariant)
      | else-not-contains w ↦ subst good (sym w.points-is) (pass_among y also k low _ (sym w.if-not-contains.ensures.value) c.loop-number.invariant)
    ]

pub returns : goal.returns
returns c =
    let y = yard_tracks c.args.self.now in
    let long = length_shut_also y c.args.also.now in
    let items = ap length c.deref-one-items.ensures.value in
    pass_end (shut_also y c.args.also.now) _ c.loop-number.number-counter (omega arith) c.loop-number.invariant
