use Rattle.yard.specs.Meaning.{yard_tracks}
use Rattle.yard_c.specs.Told.{Marked}
use Rattle.yard_c.proofs.mark_forest.Given as goal

-- the flags are those of the rounds so far
abbrev pub invariant-loop-round : goal.invariant-loop-round
invariant-loop-round l = Marked (yard_tracks l.yard) l._round l.initial.flags l.flags
