use Rattle.std.proofs.Common.{◌≡◌, length}
use Rattle.labelling.specs.Degrees.{Degrees}
use Rattle.yard.specs.Meaning.{yard_tracks}
use Rattle.labelling.proofs.leaves.Leaves.of.Given as goal

-- the degrees over the tracks below the number
abbrev pub invariant-loop-number : goal.invariant-loop-number
invariant-loop-number l = (length l.degrees ≡ 512) × Degrees (yard_tracks l.yard) l.left l.degrees l.number
