-- What taking in a track does to the representatives of the points. Assumes nothing.
use Rattle.std.specs.Prelude.{◌≡◌, ℕ, suc, ◌<◌, Bool, true, false, not, ◌&&◌, ◌≢◌, List, length, take, Decides, ◌==◌, slice_index, slice_index_or}
use Rattle.network.specs.declared.track.Track.{Track}
use Rattle.graph.specs.Yards.{track}
use Rattle.graph.specs.Forests.{InForest}
use Rattle.graph.specs.Representing.{Represents}

-- every representative is a point
abbrev pub Below : List ℕ → Type 0
Below reps = (p : ℕ) → slice_index reps p < 512

-- p is marked, and no lower marked point has its representative
abbrev pub FirstOf : List ℕ → List Bool → ℕ → Type 0
FirstOf reps marked p = (slice_index_or marked p false ≡ true) × ((q : ℕ) → q < p → slice_index_or marked q false ≡ true → slice_index reps q ≢ slice_index reps p)

-- whether x is open and its ends have different representatives
abbrev pub split : List ℕ → Track → Bool
split reps x = not x.shut && not (slice_index reps x.first == slice_index reps x.second)

-- in whatever yard x is the track i: where the representatives before were those of the tracks below i, those after are those of the tracks up to i, and the answer tells whether i is in the forest
pub record TakenIn (before after : List ℕ) (x : Track) (answer : Bool) : Type 0 where
  pub grown : (y : List Track) (i : ℕ) → i < length y → track y i ≡ x → Represents before (take i y) → Represents after (take (suc i) y)
  pub told : (y : List Track) (i : ℕ) → i < length y → track y i ≡ x → Represents before (take i y) → Decides answer (InForest y i)
