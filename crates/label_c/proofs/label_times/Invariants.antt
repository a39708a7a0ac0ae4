use Rattle.std.proofs.Common.{ℕ, length, get_or, Ok}
use Rattle.yard.specs.Meaning.{yard_tracks}
use Rattle.label_c.specs.Told.{Repeated}
use Rattle.label_c.proofs.label_times.Given as goal

-- the list is that of the rounds so far
abbrev pub invariant-loop-round : goal.invariant-loop-round
invariant-loop-round g l = Repeated g.K.Label.group (yard_tracks l.yard) (λ (i : ℕ). g.K.Label.drawn (get_or l.words i 0)) (length l.words) l._round l.initial.labels l.labels (Ok tt)
