use Rattle.std.proofs.Common.{take}
use Rattle.graph.specs.Representing.{Represents}
use Rattle.graph.specs.Yards.{shut_also}
use Rattle.yard.specs.Meaning.{yard_tracks}
use Rattle.yard.proofs.Yard.partition_without.Given as goal

-- the points as the tracks below the number join them
abbrev pub invariant-loop-number : goal.invariant-loop-number
invariant-loop-number l = Represents l.points.reps (take l.number-counter (shut_also (yard_tracks l.self) l.also))
