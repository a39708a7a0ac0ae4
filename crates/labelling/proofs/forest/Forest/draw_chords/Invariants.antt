use Rattle.std.proofs.Common.{get_or}
use Rattle.graph.specs.Counts.{Count}
use Rattle.graph.specs.Forests.{Chord}
use Rattle.labelling.specs.Settled.{ChordsDrawn}
use Rattle.yard.specs.Meaning.{yard_tracks}
use Rattle.labelling.proofs.forest.Forest.draw_chords.Given as goal

-- the tracks below the number have their draws or zero, and as many words are used as there are chords among them
abbrev pub invariant-loop-number : goal.invariant-loop-number
invariant-loop-number g l =
    Count (Chord (yard_tracks l.self.yard.now)) l.number l.used
    × ChordsDrawn g.K.Label.group (yard_tracks l.self.yard.now) (λ i. g.K.Label.drawn (get_or l.words i 0)) l.labels l.number
