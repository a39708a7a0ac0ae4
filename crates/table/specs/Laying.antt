-- What a table means, and what laying a track answers and does. Assumes nothing.
use Rattle.std.specs.Prelude.{ℕ, cond, List, [], ◌∷◌, ◌++◌, length, is_ok, Ok, Err, vec_items, Result, nat_lt}
use Rattle.network.specs.Tracks.{are_points, open_track}
use Rattle.network.specs.declared.track.Track.{Track}
use Rattle.table.specs.declared.Table.{Table}

-- the tracks of a table: its records, in the order in which they were laid
abbrev pub table_tracks : Table → List Track
table_tracks t = vec_items t.records

-- 4 for a point above 511, else 5 where there are 2,048 tracks
abbrev pub lay_answer : List Track → ℕ → ℕ → Result (Unit {0}) ℕ
lay_answer ts first second = cond (are_points first second) (cond (nat_lt (length ts) 2048) (Ok tt) (Err 5)) (Err 4)

-- one open track more, at the end; a refused call changes nothing
abbrev pub lay_after : List Track → ℕ → ℕ → List Track
lay_after ts first second = cond (is_ok (lay_answer ts first second)) (ts ++ open_track first second ∷ []) ts
