-- What a network means: the list of its tracks, in rising number. Assumes nothing.
use Rattle.std.specs.Prelude.{ℕ, ◌<◌, ◌≤◌, Bool, true, false, cond, not, ◌&&◌, List, length, is_ok, Some, None, Ok, Err, Option, Result, nat_lt, slice_index_or, slice_set}
use Rattle.std.specs.List.{range_with_len}
use Rattle.network.specs.declared.track.Track.{Track}

-- what a list reads as where it has no track: no answer depends on it
abbrev pub no_track : Track
no_track = record { first = 0; second = 0; shut = false }

-- the points of a network are the numbers below 512
abbrev pub Within : Track → Type 0
Within t = (t.first < 512) × (t.second < 512)

-- every track lies between points
abbrev pub Points : List Track → Type 0
Points ts = (k : ℕ) → k < length ts → Within (slice_index_or ts k no_track)

-- at most 2,048 tracks, between points
pub record Limits (ts : List Track) : Type 0 where
  pub few : length ts ≤ 2048
  pub points : Points ts

-- the track k, if there is one
abbrev pub track_at : List Track → ℕ → Option Track
track_at ts k = cond (nat_lt k (length ts)) (Some (slice_index_or ts k no_track)) None

-- the first and the second point of a track
abbrev pub ends_of : Option Track → Option (ℕ × ℕ)
ends_of None = None
ends_of (Some t) = Some (t.first, t.second)

abbrev pub ends_at : List Track → ℕ → Option (ℕ × ℕ)
ends_at ts k = ends_of (track_at ts k)

-- whether a track is open, which an absent one is not
abbrev pub open_of : Option Track → Bool
open_of None = false
open_of (Some t) = not t.shut

abbrev pub open_at : List Track → ℕ → Bool
open_at ts k = open_of (track_at ts k)

-- the answer to a call that is to shut (`true`) or to reopen (`false`) a track that is shut or open:
-- accepted, or 2 for a track that is shut already, or 3 for one that is open already
abbrev pub change_answer : Bool → Bool → Result (Unit {0}) ℕ
change_answer true true = Err 2
change_answer true false = Ok tt
change_answer false true = Ok tt
change_answer false false = Err 3

-- the same of a track that may be absent: then 1
abbrev pub answer_of : Bool → Option Track → Result (Unit {0}) ℕ
answer_of wanted None = Err 1
answer_of wanted (Some t) = change_answer wanted t.shut

-- the answer to a call that is to shut or to reopen the track k
abbrev pub state_answer : Bool → List Track → ℕ → Result (Unit {0}) ℕ
state_answer wanted ts k = answer_of wanted (track_at ts k)

-- a track with its state set
abbrev pub with_state : Bool → Track → Track
with_state shut t = record { first = t.first; second = t.second; shut = shut }

-- the tracks with the state of the track k set, and all else as it is
abbrev pub put_state : Bool → List Track → ℕ → List Track
put_state wanted ts k = slice_set ts k (with_state wanted (slice_index_or ts k no_track))

-- the tracks after a call that is to shut or to reopen the track k: a refused one changes nothing
abbrev pub state_after : Bool → List Track → ℕ → List Track
state_after wanted ts k = cond (is_ok (state_answer wanted ts k)) (put_state wanted ts k) ts

-- a list of the 512 points, each at its own place
abbrev pub each_point : List ℕ
each_point = range_with_len 0 512

-- whether a track may join the two points
abbrev pub are_points : ℕ → ℕ → Bool
are_points first second = nat_lt first 512 && nat_lt second 512

abbrev pub open_track : ℕ → ℕ → Track
open_track first second = record { first = first; second = second; shut = false }
