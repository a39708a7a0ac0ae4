-- What a network with an annex means, by the tracks below and those of the annex's own. Assumes nothing.
use Rattle.std.specs.Prelude.{ℕ, ◌-◌, Bool, cond, ◌&&◌, List, [], ◌∷◌, ◌++◌, length, take, is_ok, Ok, Err, Result, nat_lt, slice_index_or}
use Rattle.network.specs.Tracks.{no_track, change_answer, put_state, are_points, open_track}
use Rattle.network.specs.declared.track.Track.{Track}

-- those of the own tracks that are shown: as many as keep the total at 2,048 or less
abbrev pub shown : List Track → List Track → List Track
shown below own = take (2048 - length below) own

-- the tracks below, then the own tracks that are shown
abbrev pub annexed : List Track → List Track → List Track
annexed below own = below ++ shown below own

-- 4 for a point above 511, else 5 where there are 64 own tracks or 2,048 are shown
abbrev pub add_answer : List Track → List Track → ℕ → ℕ → Result (Unit {0}) ℕ
add_answer below own first second =
    cond (are_points first second) (cond (nat_lt (length own) 64 && nat_lt (length (annexed below own)) 2048) (Ok tt) (Err 5)) (Err 4)

-- the own tracks after a call of `add`: one open track more, at the end; a refused call changes nothing
abbrev pub add_after : List Track → List Track → ℕ → ℕ → List Track
add_after below own first second = cond (is_ok (add_answer below own first second)) (own ++ open_track first second ∷ []) own

-- all the tracks after a call of `add`: those before it, with the new one last
abbrev pub annexed_after : List Track → List Track → ℕ → ℕ → List Track
annexed_after below own first second = cond (is_ok (add_answer below own first second)) (annexed below own ++ open_track first second ∷ []) (annexed below own)

-- the answer to a call that is to shut or to reopen the own track at a place, where the first few are shown
abbrev pub own_answer : Bool → ℕ → List Track → ℕ → Result (Unit {0}) ℕ
own_answer shut few own place = cond (nat_lt place few) (change_answer shut (slice_index_or own place no_track).shut) (Err 1)

-- the own tracks after such a call
abbrev pub own_after : Bool → ℕ → List Track → ℕ → List Track
own_after shut few own place = cond (is_ok (own_answer shut few own place)) (put_state shut own place) own
