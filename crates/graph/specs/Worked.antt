-- Small yards worked out: their bridges and their classes. Assumes nothing.
use Rattle.std.specs.Prelude.{◌≡◌, ℕ, Bool, true, false, ◌&&◌, ◌||◌, ◌≢◌, ◌↔◌, List, [], ◌∷◌}
use Rattle.network.specs.Tracks.{open_track}
use Rattle.network.specs.declared.track.Track.{Track}
use Rattle.graph.specs.Yards.{among, closed, Bridge, CutPair}

-- one of these lists has both numbers
abbrev pub together : ℕ → ℕ → List (List ℕ) → Bool
together t u [] = false
together t u (c ∷ cs) = (among t c && among u c) || together t u cs

-- the bridges of y are these tracks, and its cut pairs are those of two different tracks of one of these lists
pub record HasCuts (y : List Track) (bridges : List ℕ) (classes : List (List ℕ)) : Type 0 where
  pub bridge : (t : ℕ) → Bridge y t ↔ (among t bridges ≡ true)
  pub pair : (t u : ℕ) → CutPair y t u ↔ ((t ≢ u) × (together t u classes ≡ true))

-- a triangle, a tail at one of its points, and a loop at the end of the tail
abbrev pub triangle_tail : List Track
triangle_tail = open_track 0 1 ∷ open_track 1 2 ∷ open_track 2 0 ∷ open_track 2 3 ∷ open_track 3 3 ∷ []

-- three roads whose neighbouring ends are joined
abbrev pub fan_three : List Track
fan_three = open_track 0 256 ∷ open_track 1 257 ∷ open_track 2 258 ∷ open_track 0 1 ∷ open_track 1 2 ∷ open_track 256 257 ∷ open_track 257 258 ∷ []

-- the same with the middle road shut
abbrev pub fan_three_shut : List Track
fan_three_shut = open_track 0 256 ∷ closed (open_track 1 257) ∷ open_track 2 258 ∷ open_track 0 1 ∷ open_track 1 2 ∷ open_track 256 257 ∷ open_track 257 258 ∷ []

-- three tracks between two points
abbrev pub three_parallel : List Track
three_parallel = open_track 0 1 ∷ open_track 0 1 ∷ open_track 0 1 ∷ []

-- one loop
abbrev pub one_loop : List Track
one_loop = open_track 0 0 ∷ []

pub record WorkedYards : Type 0 where
  pub triangle : HasCuts triangle_tail (3 ∷ []) ((0 ∷ 1 ∷ 2 ∷ []) ∷ [])
  pub fan : HasCuts fan_three [] ((0 ∷ 3 ∷ 5 ∷ []) ∷ (2 ∷ 4 ∷ 6 ∷ []) ∷ [])
  pub fan_shut : HasCuts fan_three_shut [] ((0 ∷ 2 ∷ 3 ∷ 4 ∷ 5 ∷ 6 ∷ []) ∷ [])
  pub parallel : HasCuts three_parallel [] []
  pub loop : HasCuts one_loop [] []
