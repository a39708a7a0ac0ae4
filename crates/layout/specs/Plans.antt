-- What a file says, line after line. Assumes nothing.
use Rattle.std.specs.Prelude.{ℕ, ◌+◌, cond, List, [], ◌∷◌, ◌++◌, Some, None, Ok, Err, Option, Result}
use Rattle.network.specs.Tracks.{open_track}
use Rattle.network.specs.declared.track.Track.{Track}
use Rattle.layout.specs.declared.faults.LineFault.{LineFault}
use Rattle.layout.specs.declared.faults.LineFault.TheVariants.{OutOfPlace}
use Rattle.layout.specs.declared.faults.FaultAt.{FaultAt}
use Rattle.layout.specs.declared.faults.FileFault.{FileFault}
use Rattle.layout.specs.declared.line.Place.{Place}
use Rattle.layout.specs.declared.line.Place.TheVariants.{Start}
use Rattle.layout.specs.Faults.{fault_at, placed}
use Rattle.layout.specs.Layout.{lines}
use Rattle.layout.specs.Lines.{Content, comment, problem, edge, line_of}
use Rattle.layout.specs.Places.{next_place, complete, points_of}

-- the number of points and the tracks of a plan, or the first fault of a file that is none
abbrev pub Reading : Type 0
Reading = Result (ℕ × List Track) FileFault

-- the tracks of one line: an edge is an open track
abbrev pub tracks_of : Content → List Track
tracks_of (comment line) = []
tracks_of (problem points edges) = []
tracks_of (edge first second) = open_track first second ∷ []

-- a reading with tracks before its own
abbrev pub onto : List Track → Reading → Reading
onto ts (Ok plan) = Ok (plan.0, ts ++ plan.1)
onto ts (Err fault) = Err fault

-- the reading from a line on: what the line says, and what the others do
abbrev pub follow : Result Content LineFault → (Place → ℕ → Reading) → Place → ℕ → Reading
follow (Ok line) others place number = onto (tracks_of line) (others (next_place place line) (number + 1))
follow (Err fault) others place number = Err (placed fault number)

-- the reading of lines, of which the first stands at this place and has this number
abbrev pub walk : List (List ℕ) → Place → ℕ → Reading
walk [] place number = cond (complete place) (Ok (points_of place, [])) (Err (placed OutOfPlace number))
walk (l ∷ ls) place number = follow (line_of place l) (walk ls) place number

-- the reading of a file
abbrev pub plan_of : List ℕ → Reading
plan_of bytes = walk (lines bytes) Start 1

-- the answer that a reading gives: the number of points
abbrev pub answer_to : Reading → Result ℕ FileFault
answer_to (Ok plan) = Ok plan.0
answer_to (Err fault) = Err fault

-- the tracks that a reading gives: a refused file has none
abbrev pub planned : Reading → List Track
planned (Ok plan) = plan.1
planned (Err fault) = []

-- what a line says, or its fault with its number
abbrev pub line_at : Result Content LineFault → ℕ → Result Content FaultAt
line_at (Ok line) number = Ok line
line_at (Err fault) number = Err (fault_at fault number)

-- the end of a file: a fault of the line that is missing, unless the plan is complete
abbrev pub end_at : Place → ℕ → Result (Unit {0}) FaultAt
end_at place number = cond (complete place) (Ok tt) (Err (fault_at OutOfPlace number))

-- a line as the next one
abbrev pub next_of : Result Content LineFault → ℕ → Result (Option Content) FileFault
next_of (Ok line) number = Ok (Some line)
next_of (Err fault) number = Err (placed fault number)

-- what the first of the lines says; none at the end of a complete plan
abbrev pub read_next : List (List ℕ) → Place → ℕ → Result (Option Content) FileFault
read_next [] place number = cond (complete place) (Ok None) (Err (placed OutOfPlace number))
read_next (l ∷ ls) place number = next_of (line_of place l) number

-- where the line after the one that was read stands
abbrev pub place_after : Place → Result (Option Content) FileFault → Place
place_after place (Ok None) = place
place_after place (Ok (Some line)) = next_place place line
place_after place (Err fault) = place

-- the number of the line after the first of these
abbrev pub number_after : List (List ℕ) → ℕ → ℕ
number_after [] number = number
number_after (l ∷ ls) number = number + 1
