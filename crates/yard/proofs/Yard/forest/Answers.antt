use Rattle.std.proofs.Common.{◌<◌, length, arith}
use Rattle.yard.specs.Meaning.{yard_tracks}
use Rattle.yard.proofs.Records.{item_low, item_is}
use Rattle.yard.proofs.Passes.{pass_start, pass_more, told_more}
use Rattle.yard.proofs.Yard.forest.Goals as goal

pub loop-number-init : goal.loop-number-init
loop-number-init c = (pass_start c.new-points.result.reps c.new-points.ensures, λ k h. absurd (omega arith))

pub loop-number-preserved : goal.loop-number-preserved
loop-number-preserved c =
    let y = yard_tracks c.args.self.now in
    let k = c.loop-number.number in
    let low = item_low y _ c.deref-one-items.ensures.value k c.loop-number-test.true in
    let room : k < length c.loop-number.flags = omega arith in
    let at = item_is y _ c.deref-one-items.ensures.value k c.loop-number-test.true in
    (pass_more y _ _ _ _ k c.take_in.ensures low at c.loop-number.invariant.0, told_more y _ _ _ _ k c.take_in.ensures low at c.loop-number.invariant.0 c.loop-number.flags room c.loop-number.invariant.1)
