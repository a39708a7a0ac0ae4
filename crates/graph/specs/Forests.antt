-- The forest of a yard, and how many words its labels need. Assumes nothing.
use Rattle.std.specs.Prelude.{◌≡◌, ℕ, Bool, true, ◌≢◌, ◌⊎◌, List, length, take}
use Rattle.network.specs.declared.track.Track.{Track}
use Rattle.graph.specs.Counts.{Count}
use Rattle.graph.specs.Yards.{track, Open, Joined}

-- the ends of t are joined by open tracks of lower number
abbrev pub Closes : List Track → ℕ → Type 0
Closes y t = Joined (take t y) (track y t).first (track y t).second

-- the forest holds an open track exactly when its ends are not joined by open tracks of lower number
abbrev pub InForest : List Track → ℕ → Type 0
InForest y t = Open y t × ¬ Closes y t

-- a chord: an open track outside the forest
abbrev pub Chord : List Track → ℕ → Type 0
Chord y t = Open y t × Closes y t

-- the words needed are as many as the chords
abbrev pub WordsNeeded : List Track → ℕ → Type 0
WordsNeeded y n = Count (Chord y) (length y) n

-- the point p is an end of the track t
abbrev pub Touches : List Track → ℕ → ℕ → Type 0
Touches y t p = ((track y t).first ≡ p) ⊎ ((track y t).second ≡ p)

-- of the tracks that are kept, one alone has this end, and it is not the point r
pub record Leaf (y : List Track) (keep : ℕ → Bool) (r : ℕ) : Type 0 where
  pub point : ℕ
  pub number : ℕ
  pub away : point ≢ r
  pub kept : keep number ≡ true
  pub touches : Touches y number point
  pub alone : (t : ℕ) → keep t ≡ true → Touches y t point → t ≡ number
