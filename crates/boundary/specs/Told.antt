-- What is told of tracks that a caller gives: whether they make a yard, and the status of an answer. Assumes nothing.
use Rattle.std.specs.Prelude.{◌≡◌, ℕ, ◌<◌, ◌≤◌, List, length, Ok, Err, Result}
use Rattle.network.specs.Refusals.{refusal_number}
use Rattle.network.specs.Tracks.{Points, Limits}
use Rattle.network.specs.declared.stop.Stop.{Stop}
use Rattle.network.specs.declared.stop.Stop.TheVariants.{Refused, NoMemory}
use Rattle.network.specs.declared.track.Refusal.{Refusal}
use Rattle.network.specs.declared.track.Refusal.TheVariants.{NoSuchPoint, Full}
use Rattle.network.specs.declared.track.Track.{Track}

-- why tracks are refused: `Full` where they are more than 2,048, else `NoSuchPoint` where one has a point above 511
abbrev pub RefusedFor : List Track → Refusal → Type 0
RefusedFor ts Full = 2048 < length ts
RefusedFor ts NoSuchPoint = (length ts ≤ 2048) × (¬ Points ts)
RefusedFor ts _ = ⊥

-- whether tracks make a yard: they do within the limits, and else are refused
abbrev pub Judged : List Track → Result (Unit {0}) Refusal → Type 0
Judged ts (Ok _) = Limits ts
Judged ts (Err why) = RefusedFor ts why

-- why there is no yard of the tracks: the refusal, or want of memory, where they are within the limits
abbrev pub Unmade : List Track → Stop → Type 0
Unmade ts (Refused why) = RefusedFor ts why
Unmade ts NoMemory = Limits ts

-- the status for want of memory, which is no refusal
abbrev pub no_memory : ℕ
no_memory = 255

-- the status of an answer: 0, or the number of the refusal, or the one for want of memory
abbrev pub status_of : {T : Type 0} → Result T Stop → ℕ
status_of (Ok _) = 0
status_of (Err (Refused why)) = refusal_number why
status_of (Err NoMemory) = no_memory

-- a status that tells an answer of which P holds
abbrev pub Tells : (Result (Unit {0}) Stop → Type 0) → ℕ → Type 0
Tells P status = (answer : Result (Unit {0}) Stop) × P answer × (status ≡ status_of answer)
