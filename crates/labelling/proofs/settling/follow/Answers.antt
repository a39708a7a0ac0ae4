use Rattle.std.proofs.Common.{◌≡◌, ℕ, ◌<◌, cond, eqb, List, length, sym, ap, ◌∙◌, subst, ⊎_elim, arith}
use Rattle.std.proofs.lemmas.Bool.{cases_eq}
use Rattle.network.specs.declared.track.Track.{Track}
use Rattle.graph.specs.Degrees.{NoneAlone}
use Rattle.labelling.proofs.Followed.{flags_set, fewer_set, step_there, onward_low, step_done, step_known}
use Rattle.labelling.proofs.Points.{read_is}
use Rattle.yard.specs.Meaning.{yard_tracks}
use Rattle.labelling.proofs.settling.follow.Goals as goal

pub loop-number-smaller : goal.loop-number-smaller
loop-number-smaller g c =
    subst (λ l. flags_set l < flags_set c.loop-number.leaves.left) (sym c.take_off.ensures.left) (fewer_set c.loop-number.leaves.left c.in-Some.number c.in-Some.ensures.some.flag)

pub loop-number-preserved : goal.loop-number-preserved
loop-number-preserved g c =
    let y = yard_tracks c.args.incidence.now.yard.now in
    let s = c.loop-number.leaves in
    let same : yard_tracks s.yard.now ≡ y = c.loop-number.invariant.1 in
    let at = c.loop-number.at in
    let n = c.in-Some.number in
    let only = c.in-Some.ensures.some in
    let is = read_is c.args.incidence.now.yard.now _ c.tracks.ensures n (omega (arith, step_there s y same at n only, ap length c.tracks.ensures)) in
    let on = c.other_end-at.ensures ∙ ap (λ (x : Track). cond (eqb x.first at) x.second x.first) is in (
      subst (λ (p : ℕ). p < 512) (sym on) (onward_low s y same at n only),
      c.take_off.ensures.yard ∙ same,
      λ L b k. step_known s y same at n only _ c.take_off.ensures.left g.K.Label.group L _ _ (c.loop-number.auto.labels ∙ c.requires.long) c.settle.ensures b (c.loop-number.invariant.2 L b k),
      λ p h ne w. step_done s y same at n only _ c.take_off.ensures.left p (λ e. ne (e ∙ sym on)) (λ off. c.loop-number.invariant.3 p h off w),
    )

pub returns-clause-done : goal.returns-clause-done
returns-clause-done g c p h w =
    ⊎_elim
    (λ e. subst (λ (q : ℕ). NoneAlone (yard_tracks c.args.incidence.now.yard.now) c.loop-number.leaves.left q) (sym e)
    (subst (λ (z : List Track). NoneAlone z c.loop-number.leaves.left c.loop-number.at) c.loop-number.invariant.1 c.in_default.ensures.none))
    (λ ne. c.loop-number.invariant.3 p h ne w)
    (cases_eq p c.loop-number.at)
