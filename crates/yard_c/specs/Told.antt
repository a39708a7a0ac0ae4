-- What each call answers and writes. Assumes nothing.
use Rattle.std.specs.Prelude.{◌≡◌, ℕ, ◌*◌, ◌<◌, ◌≤◌, Bool, false, ◌≢◌, List, length, Ok, Err, Decides, Result, slice_index_or}
use Rattle.network.specs.Tracks.{Limits}
use Rattle.network.specs.declared.stop.Stop.{Stop}
use Rattle.network.specs.declared.stop.Stop.TheVariants.{Refused, NoMemory}
use Rattle.network.specs.declared.track.Refusal.TheVariants.{WrongLength}
use Rattle.network.specs.declared.track.Track.{Track}
use Rattle.graph.specs.Forests.{InForest}
use Rattle.yard.specs.declared.Yard.{Yard}
use Rattle.yard.specs.Meaning.{yard_tracks}
use Rattle.boundary.specs.Told.{RefusedFor, Unmade}

-- a question that every yard answers with one number, at most 2,048
pub record AsksCount (Answers : Yard → ℕ → Type 0) : Type 0 where
  pub few : (y : Yard) (n : ℕ) → Answers y n → n ≤ 2048
  pub one : (y : Yard) (m n : ℕ) → Answers y m → Answers y n → m ≡ n

-- the number that a yard of these tracks answers
abbrev pub CountOf : (Yard → ℕ → Type 0) → List Track → ℕ → Type 0
CountOf Answers ts n = (y : Yard) × (yard_tracks y ≡ ts) × Answers y n

-- so many times the count
pub record Timed (Counts : ℕ → Type 0) (times sum : ℕ) : Type 0 where
  pub some : times ≢ 0 → (n : ℕ) × Counts n × (sum ≡ times * n)
  pub none : times ≡ 0 → sum ≡ 0

-- a call that counts: it writes so many times the count; or nothing, as there is no yard of the tracks
abbrev pub Summed : (List Track → ℕ → Type 0) → List Track → ℕ → ℕ → ℕ → Result (Unit {0}) Stop → Type 0
Summed Counts ts times before after (Ok _) = Limits ts × Timed (Counts ts) times after
Summed Counts ts times before after (Err why) = Unmade ts why × (after ≡ before)

-- the flags tell of each track whether it is in the forest, unless they were to be told no time
pub record Marked (ts : List Track) (times : ℕ) (before after : List Bool) : Type 0 where
  pub told : times ≢ 0 → (t : ℕ) → t < length ts → Decides (slice_index_or after t false) (InForest ts t)
  pub left : times ≡ 0 → after ≡ before

-- why no forest is told: there is no yard of the tracks, for a refusal; or the flags are not as many as the tracks; or they are, and memory is wanting
abbrev pub Unmarked : List Track → List Bool → Stop → Type 0
Unmarked ts flags NoMemory = Limits ts × (length flags ≡ length ts)
Unmarked ts flags (Refused WrongLength) = Limits ts × (length flags ≢ length ts)
Unmarked ts flags (Refused why) = RefusedFor ts why

-- a call that tells the forest: the flags are told so many times; or nothing is written
abbrev pub Flagged : List Track → ℕ → List Bool → List Bool → Result (Unit {0}) Stop → Type 0
Flagged ts times before after (Ok _) = Limits ts × (length before ≡ length ts) × Marked ts times before after
Flagged ts times before after (Err why) = Unmarked ts before why × (after ≡ before)
