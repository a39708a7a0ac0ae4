use Rattle.std.proofs.Common.{◌≡◌, ◌+◌, Bool, false, List, length, replicate, sym, ap, ◌∙◌, subst}
use lib.ListN.{length-replicate}
use Rattle.std.proofs.lemmas.List.{get_or-replicate, length-set}
use Rattle.yard.specs.Meaning.{yard_tracks}
use Rattle.yard.proofs.Records.{item_is, item_within}
use Rattle.yard.proofs.Marked.{Marks, marks_none, marks_shut, marks_open}
use Rattle.yard.proofs.Yard.touched.Goals as goal
use Rattle.yard.proofs.Yard.touched.Goals.{then-not-one, else-not-one}

pub loop-one-init : goal.loop-one-init
loop-one-init c = (length-replicate 512 false, marks_none (yard_tracks c.args.self.now) (replicate 512 false) (λ p h. get_or-replicate 512 p false false h))

pub loop-one-preserved : goal.loop-one-preserved
loop-one-preserved c =
    let y = yard_tracks c.args.self.now in
    let k = c.loop-one.one-index in
    let at = item_is y _ c.deref-one-items.ensures.value k c.loop-one-test.true in
    let within = item_within y _ c.deref-one-items.ensures.value k c.loop-one-test.true c.args.self.now.points in
    let good : (marked : List Bool) → Type 0 = λ marked. (length marked ≡ 512) × Marks y marked (k + 1) in
    elim c.if-not-one.branch [
      | then-not-one w ↦
          let is_open = w.if-not-one.true in
          subst good (sym w.touched-is) (
            length-set _ _ _ ∙ length-set _ _ _ ∙ c.loop-one.invariant.0,
            marks_open y c.loop-one.touched k c.loop-one.invariant.0 (ap (λ x. x.shut) (sym at) ∙ is_open) _ _ (ap (λ x. x.first) at) (ap (λ x. x.second) at) within.0 within.1 c.loop-one.invariant.1,
          )
      | else-not-one w ↦
          let is-shut = w.if-not-one.false in
          subst good (sym w.touched-is) (c.loop-one.invariant.0, marks_shut y c.loop-one.touched k (ap (λ x. x.shut) (sym at) ∙ is-shut) c.loop-one.invariant.1)
    ]
