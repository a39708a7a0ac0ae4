use Rattle.std.proofs.Common.{◌≡◌, List, length, sym, ap, ◌∙◌, subst, inl, inr, ⊎_elim, arith}
use Rattle.std.proofs.lemmas.Bool.{cases_eq}
use Rattle.network.specs.declared.track.Track.{Track}
use Rattle.circulation.specs.Labels.{Balanced}
use Rattle.labelling.specs.Settled.{Known}
use Rattle.labelling.proofs.Labelled.{all_settled}
use Rattle.yard.specs.Meaning.{yard_tracks}
use Rattle.labelling.proofs.settling.settle_forest.Goals as goal

pub loop-point-preserved : goal.loop-point-preserved
loop-point-preserved g c = (
  c.follow.ensures.yard,
  λ L b k. c.follow.ensures.known L b (c.loop-point.invariant.1 L b k),
  λ p h. c.follow.ensures.done p (omega arith) (⊎_elim inl (λ ne. inr (c.loop-point.invariant.2 p (omega arith))) (cases_eq p c.loop-point.point)),
)

pub returns : goal.returns
returns g c L b k =
    let y = yard_tracks c.of-incidence.result.yard.now in
    let same : y ≡ yard_tracks c.args.forest.now.yard.now = c.of-incidence.ensures in
    let balanced = subst (λ (z : List Track). Balanced g.K.Label.group z L) (sym same) b in
    let known = subst (λ l. Known g.K.Label.group L c.args.labels.now l) (sym c.of-leaves.ensures.left) k in
    all_settled g.K.Label.group y c.loop-point.leaves c.loop-point.invariant.0 L _ (λ p h. c.loop-point.invariant.2 p (omega arith)) (c.loop-point.auto.labels ∙ c.requires ∙ ap length (sym same)) balanced (c.loop-point.invariant.1 L balanced known)
