use Rattle.std.proofs.Common.{◌≡◌, ℕ, ◌<◌, ◌≤◌, cond, eqb, get_or}
use Rattle.yard.proofs.partition.replace.Given as goal

-- replaced below the index, as they were from it on
abbrev pub invariant-loop-rep : goal.invariant-loop-rep
invariant-loop-rep l =
    ((k : ℕ) → k < l.rep-index → get_or l.reps k 0 ≡ cond (eqb (get_or l.initial.reps k 0) l.u) l.v (get_or l.initial.reps k 0))
    × ((k : ℕ) → l.rep-index ≤ k → get_or l.reps k 0 ≡ get_or l.initial.reps k 0)
