-- The groups of a yard: points that an open track touches share a group exactly when they are joined. Assumes nothing.
use Rattle.std.specs.Prelude.{◌≡◌, ℕ, ◌<◌, ◌⊎◌, List}
use Rattle.network.specs.declared.track.Track.{Track}
use Rattle.graph.specs.Counts.{Count}
use Rattle.graph.specs.Yards.{track, Open, Joined}

-- an open track touches p
pub record Touched (y : List Track) (p : ℕ) : Type 0 where
  pub number : ℕ
  pub is_open : Open y number
  pub at_end : ((track y number).first ≡ p) ⊎ ((track y number).second ≡ p)

-- p is touched and is the lowest point of its group
abbrev pub LeadsGroup : List Track → ℕ → Type 0
LeadsGroup y p = Touched y p × ((q : ℕ) → q < p → Touched y q → ¬ Joined y q p)

-- how many groups there are: each is counted at its lowest point
abbrev pub GroupCount : List Track → ℕ → Type 0
GroupCount y n = Count (LeadsGroup y) 512 n
