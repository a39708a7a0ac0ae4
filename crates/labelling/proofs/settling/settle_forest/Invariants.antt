use Rattle.std.proofs.Common.{◌≡◌, ℕ, ◌<◌, List}
use Rattle.graph.specs.Degrees.{NoneAlone}
use Rattle.circulation.specs.Labels.{Balanced}
use Rattle.labelling.specs.Settled.{Known}
use Rattle.yard.specs.Meaning.{yard_tracks}
use Rattle.labelling.proofs.settling.settle_forest.Given as goal

-- what is settled is settled as it should be, and at no point below this one is a track alone
abbrev pub invariant-loop-point : goal.invariant-loop-point
invariant-loop-point g l =
    let y = yard_tracks l.incidence.yard.now in
    (yard_tracks l.leaves.yard.now ≡ y)
    × ((L : List g.row.K.Denot) → Balanced g.K.Label.group y L → Known g.K.Label.group L l.initial.labels l.initial.leaves.left → Known g.K.Label.group L l.labels l.leaves.left)
    × ((p : ℕ) → p < l.point → NoneAlone y l.leaves.left p)
