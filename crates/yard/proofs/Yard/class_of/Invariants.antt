use Rattle.std.proofs.Common.{ℕ, ◌<◌, ◌≤◌}
use Rattle.graph.specs.Classes.{Fellow}
use Rattle.graph.specs.Counts.{Count}
use Rattle.yard.specs.Meaning.{yard_tracks}
use Rattle.yard.proofs.Yard.class_of.Given as goal

-- the fellows below the other are counted, and the lead is the lowest of them and of the track itself
abbrev pub invariant-loop-other : goal.invariant-loop-other
invariant-loop-other l =
    (l.size ≤ l.other)
    × Count (Fellow (yard_tracks l.self) l.number) l.other l.size
    × Fellow (yard_tracks l.self) l.number l.lead
    × ((k : ℕ) → k < l.other → Fellow (yard_tracks l.self) l.number k → l.lead ≤ k)
