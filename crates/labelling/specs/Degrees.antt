-- The degrees of all points, as code keeps them. Assumes nothing.
use Rattle.std.specs.Prelude.{◌≡◌, ℕ, ◌<◌, Bool, List, slice_index_or}
use Rattle.network.specs.declared.track.Track.{Track}
use Rattle.graph.specs.Degrees.{left_at, how_many, xor_of}
use Rattle.labelling.specs.declared.degrees.Degree.{Degree}

-- what stands at the place of a point
abbrev pub degree_at : List Degree → ℕ → Degree
degree_at degrees p = slice_index_or degrees p (record { count = 0; numbers = 0 })

-- each point has at its place how many of the tracks below n are left at it, and the exclusive or of their numbers
abbrev pub Degrees : List Track → List Bool → List Degree → ℕ → Type 0
Degrees y left degrees n =
    (p : ℕ) → p < 512 → ((degree_at degrees p).count ≡ how_many (left_at y left p) n) × ((degree_at degrees p).numbers ≡ xor_of (left_at y left p) n)
