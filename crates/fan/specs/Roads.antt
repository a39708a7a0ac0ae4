-- The tracks of parallel roads whose neighbouring ends are joined. Assumes nothing.
use Rattle.std.specs.Prelude.{ℕ, ◌+◌, ◌-◌, ◌*◌, ◌≤◌, Bool, false, cond, ◌&&◌, List, map, is_ok, Ok, Err, Result, nat_le, nat_lt, slice_index_or}
use Rattle.std.specs.List.{range_with_len}
use Rattle.network.specs.Tracks.{open_track}
use Rattle.network.specs.declared.track.Track.{Track}

-- a fan has 1 to 256 roads
abbrev pub Roads : ℕ → Type 0
Roads roads = (1 ≤ roads) × (roads ≤ 256)

-- as many tracks as there are roads, and one fewer on either side to join their neighbouring ends
abbrev pub road_tracks : ℕ → ℕ
road_tracks roads = 3 * roads - 2

-- the points of the track k: the road k joins k and 256 + k;
-- then the track roads + k joins k and k + 1;
-- then the track 2 * roads - 1 + k joins 256 + k and 257 + k
abbrev pub road_ends : ℕ → ℕ → ℕ × ℕ
road_ends roads k =
    cond (nat_lt k roads) (k, 256 + k)
    (cond (nat_lt k (2 * roads - 1)) (k - roads, k - roads + 1) (256 + (k - (2 * roads - 1)), 257 + (k - (2 * roads - 1))))

-- the track k, where states tells which tracks are shut
abbrev pub road_track : ℕ → List Bool → ℕ → Track
road_track roads states k = record { first = (road_ends roads k).0; second = (road_ends roads k).1; shut = slice_index_or states k false }

-- all the tracks of so many roads
abbrev pub fanned : ℕ → List Bool → List Track
fanned roads states = map (road_track roads states) (range_with_len 0 (road_tracks roads))

-- the same with every track open
abbrev pub open_roads : ℕ → List Track
open_roads roads = map (λ k. open_track (road_ends roads k).0 (road_ends roads k).1) (range_with_len 0 (road_tracks roads))

-- 6 for a number of roads outside 1 to 256
abbrev pub size_answer : ℕ → Result (Unit {0}) ℕ
size_answer roads = cond (nat_le 1 roads && nat_le roads 256) (Ok tt) (Err 6)

-- so many roads, all tracks open; a refused call changes nothing
abbrev pub size_after : List Track → ℕ → List Track
size_after ts roads = cond (is_ok (size_answer roads)) (open_roads roads) ts
