-- Representatives: two points have the same one exactly when they are joined. Assumes nothing.
use Rattle.std.specs.Prelude.{◌≡◌, ℕ, ◌<◌, List, slice_index}
use Rattle.network.specs.declared.track.Track.{Track}
use Rattle.graph.specs.Yards.{Joined}

-- the list has at the place of each point a representative, the same for two points exactly when the tracks of y join them
abbrev pub Represents : List ℕ → List Track → Type 0
Represents reps y = (a b : ℕ) → a < 512 → b < 512 → (slice_index reps a ≡ slice_index reps b → Joined y a b) × (Joined y a b → slice_index reps a ≡ slice_index reps b)
