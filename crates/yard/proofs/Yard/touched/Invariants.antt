use Rattle.std.proofs.Common.{◌≡◌, length}
use Rattle.yard.specs.Meaning.{yard_tracks}
use Rattle.yard.proofs.Marked.{Marks}
use Rattle.yard.proofs.Yard.touched.Given as goal

-- the points that open tracks below the number touch
abbrev pub invariant-loop-one : goal.invariant-loop-one
invariant-loop-one l = (length l.touched ≡ 512) × Marks (yard_tracks l.self) l.touched l.one-index
