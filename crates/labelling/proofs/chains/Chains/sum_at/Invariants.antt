use Rattle.std.proofs.Common.{length}
use Rattle.graph.specs.Yards.{track}
use Rattle.circulation.proofs.Chains.{Along}
use Rattle.labelling.specs.Ends.{at_end}
use Rattle.yard.specs.Meaning.{yard_tracks}
use Rattle.labelling.proofs.chains.Chains.sum_at.Given as goal

-- what is summed, and what is still to come
abbrev pub invariant-loop-at : goal.invariant-loop-at
invariant-loop-at g l =
    Along g.K.Label.group l.labels (λ t. at_end l.self.end l.point (track (yard_tracks l.self.yard.now) t)) (length (yard_tracks l.self.yard.now)) l.sum l.at

abbrev pub decreases-loop-at : goal.decreases-loop-at
decreases-loop-at g l = l.at
