use Rattle.std.proofs.Common.{◌≤◌, take}
use Rattle.graph.specs.Counts.{Count}
use Rattle.graph.specs.Forests.{Chord}
use Rattle.graph.specs.Representing.{Represents}
use Rattle.yard.specs.Meaning.{yard_tracks}
use Rattle.yard.proofs.Yard.words_needed.Given as goal

-- the points as the tracks below the number join them, and how many of these are chords
abbrev pub invariant-loop-one : goal.invariant-loop-one
invariant-loop-one l =
    (l.words ≤ l.one-index)
    × Represents l.points.reps (take l.one-index (yard_tracks l.self))
    × Count (Chord (yard_tracks l.self)) l.one-index l.words
