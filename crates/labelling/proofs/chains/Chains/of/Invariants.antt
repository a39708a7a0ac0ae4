use Rattle.std.proofs.Common.{◌≡◌, length}
use Rattle.circulation.specs.Chains.{Chained}
use Rattle.labelling.specs.Ends.{at_end}
use Rattle.yard.specs.Meaning.{yard_tracks}
use Rattle.labelling.proofs.chains.Chains.of.Given as goal

-- the tracks below the number are chained
abbrev pub invariant-loop-number : goal.invariant-loop-number
invariant-loop-number l = (length l.heads ≡ 512) × (length l.links ≡ 2048) × Chained (at_end l.end) (yard_tracks l.yard) l.heads l.links l.number
