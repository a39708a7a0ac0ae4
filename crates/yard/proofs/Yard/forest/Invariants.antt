use Rattle.std.proofs.Common.{ℕ, ◌<◌, false, get_or, take, Decides}
use Rattle.graph.specs.Forests.{InForest}
use Rattle.graph.specs.Representing.{Represents}
use Rattle.yard.specs.Meaning.{yard_tracks}
use Rattle.yard.proofs.Yard.forest.Given as goal

-- the points as the tracks below the number join them, and each of these is told
abbrev pub invariant-loop-number : goal.invariant-loop-number
invariant-loop-number l =
    Represents l.points.reps (take l.number (yard_tracks l.self))
    × ((k : ℕ) → k < l.number → Decides (get_or l.flags k false) (InForest (yard_tracks l.self) k))
