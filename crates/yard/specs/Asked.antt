-- The answers to questions about tracks that may be absent. Assumes nothing.
use Rattle.std.specs.Prelude.{◌≡◌, ℕ, ◌<◌, ◌≤◌, Bool, true, false, cond, ◌⊎◌, List, length, is_ok, Some, None, Ok, Err, Decides, Option, Result, ◌==◌, slice_index_or}
use Rattle.network.specs.Tracks.{Within}
use Rattle.network.specs.declared.track.Refusal.{Refusal}
use Rattle.network.specs.declared.track.Refusal.TheVariants.{NoSuchTrack}
use Rattle.network.specs.declared.track.Track.{Track}
use Rattle.graph.specs.Yards.{track}
use Rattle.graph.specs.Forests.{InForest}
use Rattle.graph.specs.Classes.{InClass, InNoClass}
use Rattle.yard.specs.declared.Class.{Class}

-- the track t of a yard, or the refusal where there is no such track
abbrev pub Recorded : List Track → ℕ → Result Track Refusal → Type 0
Recorded y t (Ok x) = (t < length y) × (x ≡ track y t) × Within x
Recorded y t (Err why) = (length y ≤ t) × (why ≡ NoSuchTrack)

-- a question about the track t of a yard: 1 where there is no such track, else whether P holds
abbrev pub AskOne : List Track → ℕ → Type 0 → Result Bool ℕ → Type 0
AskOne y t P (Ok answer) = (t < length y) × Decides answer P
AskOne y t P (Err number) = (length y ≤ t) × (number ≡ 1)

-- a question about the tracks t and u: 1 where one of them is absent, else whether P holds
abbrev pub AskTwo : List Track → ℕ → ℕ → Type 0 → Result Bool ℕ → Type 0
AskTwo y t u P (Ok answer) = (t < length y) × (u < length y) × Decides answer P
AskTwo y t u P (Err number) = ((length y ≤ t) ⊎ (length y ≤ u)) × (number ≡ 1)

-- the class of the track t: 1 where there is no such track, else its lead and size, or none for a track in no class
abbrev pub ClassAnswer : List Track → ℕ → Result (Option Class) ℕ → Type 0
ClassAnswer y t (Ok None) = (t < length y) × InNoClass y t
ClassAnswer y t (Ok (Some c)) = (t < length y) × InClass y t c.lead c.size
ClassAnswer y t (Err number) = (length y ≤ t) × (number ≡ 1)

-- 7 where the caller's list is not as long as the track list
abbrev pub list_answer : List Track → List Bool → Result (Unit {0}) ℕ
list_answer y flags = cond (length flags == length y) (Ok tt) (Err 7)

-- the caller's list after: it tells of each track whether it is in the forest; a refused call leaves it
pub record ForestTold (y : List Track) (before after : List Bool) (answer : Result (Unit {0}) ℕ) : Type 0 where
  pub long : length after ≡ length before
  pub told : is_ok answer ≡ true → (t : ℕ) → t < length y → Decides (slice_index_or after t false) (InForest y t)
  pub left : is_ok answer ≡ false → after ≡ before
