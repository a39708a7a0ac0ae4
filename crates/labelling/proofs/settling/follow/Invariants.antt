use Rattle.std.proofs.Common.{◌≡◌, ℕ, ◌<◌, ◌≢◌, ◌⊎◌, List}
use Rattle.graph.specs.Degrees.{NoneAlone}
use Rattle.circulation.specs.Labels.{Balanced}
use Rattle.labelling.specs.Settled.{Known}
use Rattle.labelling.proofs.Followed.{flags_set}
use Rattle.yard.specs.Meaning.{yard_tracks}
use Rattle.labelling.proofs.settling.follow.Given as goal

-- what is settled is settled as it should be, and at no point but this one has a track become alone
abbrev pub invariant-loop-number : goal.invariant-loop-number
invariant-loop-number g l =
    let y = yard_tracks l.incidence.yard.now in
    (l.at < 512)
    × (yard_tracks l.leaves.yard.now ≡ y)
    × ((L : List g.row.K.Denot) → Balanced g.K.Label.group y L → Known g.K.Label.group L l.initial.labels l.initial.leaves.left → Known g.K.Label.group L l.labels l.leaves.left)
    × ((p : ℕ) → p < 512 → p ≢ l.at → (p ≡ l.start) ⊎ NoneAlone y l.initial.leaves.left p → NoneAlone y l.leaves.left p)

abbrev pub decreases-loop-number : goal.decreases-loop-number
decreases-loop-number g l = flags_set l.leaves.left
