use Rattle.std.proofs.Common.{◌*◌, ◌≤◌}
use Rattle.std.specs.Fn.{FnReturnsAt}
use Rattle.yard_c.specs.Told.{Timed}
use Rattle.yard_c.proofs.sum_asked.Given as goal

-- the sum is that of the turns so far, and has room
abbrev pub invariant-loop-turn : goal.invariant-loop-turn
invariant-loop-turn g l = goal.F-IsAlwaysCallable g l.ask × Timed (FnReturnsAt g.F.Fn l.ask l.yard) l._turn l.sum × (l.sum ≤ 2048 * l._turn)
