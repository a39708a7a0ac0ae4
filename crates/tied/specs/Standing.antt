-- What a network means whose points are stood for by others. Assumes nothing.
use Rattle.std.specs.Prelude.{ℕ, ◌<◌, cond, List, map, is_ok, Ok, Err, Result, slice_index, slice_set}
use Rattle.network.specs.Tracks.{are_points}
use Rattle.network.specs.declared.track.Track.{Track}

-- the point that stands for a point
abbrev pub stand_in : List ℕ → ℕ → ℕ
stand_in stands point = slice_index stands point

-- every point that stands for another is below 512
abbrev pub Standing : List ℕ → Type 0
Standing stands = (point : ℕ) → stand_in stands point < 512

-- a track with each end shown as the point that stands for it
abbrev pub retied : List ℕ → Track → Track
retied stands t = record { first = stand_in stands t.first; second = stand_in stands t.second; shut = t.shut }

-- all tracks so, each end looked up once
abbrev pub tied : List ℕ → List Track → List Track
tied stands below = map (retied stands) below

-- 4 for a point above 511
abbrev pub tie_answer : ℕ → ℕ → Result (Unit {0}) ℕ
tie_answer point by = cond (are_points point by) (Ok tt) (Err 4)

-- by stands for point, and all else is as it was; a refused call changes nothing
abbrev pub tie_after : List ℕ → ℕ → ℕ → List ℕ
tie_after stands point by = cond (is_ok (tie_answer point by)) (slice_set stands point by) stands
