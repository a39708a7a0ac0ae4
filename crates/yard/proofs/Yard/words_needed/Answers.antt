use Rattle.std.proofs.Common.{sym, subst, arith}
use Rattle.graph.specs.Counts.{Count, start}
use Rattle.graph.specs.Forests.{Chord}
use Rattle.yard.specs.Meaning.{yard_tracks}
use Rattle.yard.proofs.Records.{item_low, item_is}
use Rattle.yard.proofs.Passes.{pass_start, pass_more, chord_more, other_more}
use Rattle.yard.proofs.Yard.words_needed.Goals as goal
use Rattle.yard.proofs.Yard.words_needed.Goals.{then-is_chord, else-is_chord}

pub loop-one-init : goal.loop-one-init
loop-one-init c = (omega arith, pass_start c.new-points.result.reps c.new-points.ensures, start)

pub loop-one-preserved : goal.loop-one-preserved
loop-one-preserved c =
    let y = yard_tracks c.args.self.now in
    let k = c.loop-one.one-index in
    let low = item_low y _ c.deref-one-items.ensures.value k c.loop-one-test.true in
    let at = item_is y _ c.deref-one-items.ensures.value k c.loop-one-test.true in
    let taken = c.take_in-joins.ensures in
    let before = c.loop-one.invariant.0 in
    let next = pass_more y _ _ _ _ k taken low at c.loop-one.invariant.1 in
    elim c.if-is_chord.branch [
      | then-is_chord w ↦ (omega (arith, w.words-is), next, subst (Count (Chord y) _) (sym w.words-is) (chord_more y _ _ _ _ k taken low at c.loop-one.invariant.1 c.loop-one.words (sym w.if-is_chord.ensures) c.loop-one.invariant.2))
      | else-is_chord w ↦ (omega (arith, w.words-is), next, subst (Count (Chord y) _) (sym w.words-is) (other_more y _ _ _ _ k taken low at c.loop-one.invariant.1 c.loop-one.words (sym w.if-is_chord.ensures) c.loop-one.invariant.2))
    ]
