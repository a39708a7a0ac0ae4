use Rattle.std.proofs.Common.{length}
use Rattle.yard.proofs.Marked.{Counted}
use Rattle.yard.proofs.partition.Partition.count_marked.Given as goal

-- the representatives of the marked points so far are seen and counted
abbrev pub invariant-loop-rep : goal.invariant-loop-rep
invariant-loop-rep l = Counted l.self.reps l.marked l.seen l.count (length l.yielded)
