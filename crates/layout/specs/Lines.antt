-- What a line says. Assumes nothing.
use Rattle.std.specs.Prelude.{ℕ, ◌-◌, Bool, true, cond, List, [], ◌∷◌, Some, None, Ok, Err, codes, Option, Result, ◌==◌, nat_lt}
use Rattle.std.specs.Str.{bytes_eq}
use Rattle.layout.specs.declared.faults.NumberFault.{NumberFault}
use Rattle.layout.specs.declared.faults.LineFault.{LineFault}
use Rattle.layout.specs.declared.faults.LineFault.TheVariants.{UnknownKind, OutOfPlace, Number}
use Rattle.layout.specs.declared.line.Place.{Place}
use Rattle.layout.specs.declared.line.Place.TheVariants.{Start, Within}
use Rattle.layout.specs.Layout.{fields, numbers_of}

-- what a line says: a comment is the whole line, a problem line says how many points and edges there are, and an edge joins two points, counted from 0
pub data Content : Type 0 where
  comment : List ℕ → Content
  problem : ℕ → ℕ → Content
  edge : ℕ → ℕ → Content

-- the problem line with these numbers
abbrev pub problem_of : Result (ℕ × ℕ) NumberFault → Result Content LineFault
problem_of (Ok p) = Ok (problem p.0 p.1)
problem_of (Err e) = Err (Number e)

-- the edge with these numbers: point U of the file is U - 1 inside
abbrev pub edge_of : Result (ℕ × ℕ) NumberFault → Result Content LineFault
edge_of (Ok p) = Ok (edge (p.0 - 1) (p.1 - 1))
edge_of (Err e) = Err (Number e)

-- only the first problem line is in place
abbrev pub problem_at : Place → List (List ℕ) → Result Content LineFault
problem_at Start numbers = problem_of (numbers_of 0 512 2048 numbers)
problem_at (Within points edges laid) numbers = Err OutOfPlace

-- p edge N E: another word than edge, or none, makes no known kind of line
abbrev pub problem_line : Place → List (List ℕ) → Result Content LineFault
problem_line place [] = Err UnknownKind
problem_line place (w ∷ numbers) = cond (bytes_eq w (codes "edge")) (problem_at place numbers) (Err UnknownKind)

-- how many points there are for an edge to join: none where an edge is out of place, before the problem line or after the last edge that it said
abbrev pub edge_points : Place → Option ℕ
edge_points Start = None
edge_points (Within points edges laid) = cond (nat_lt laid edges) (Some points) None

-- an edge that joins two of so many points
abbrev pub edge_among : Option ℕ → List (List ℕ) → Result Content LineFault
edge_among None numbers = Err OutOfPlace
edge_among (Some points) numbers = edge_of (numbers_of 1 points points numbers)

-- e U V
abbrev pub edge_line : Place → List (List ℕ) → Result Content LineFault
edge_line place numbers = edge_among (edge_points place) numbers

-- what a line says by its letter, c, p or e, and what follows that
abbrev pub by_letter : Place → ℕ → List ℕ → Result Content LineFault
by_letter place letter rest =
    cond (letter == 99) (Ok (comment (letter ∷ rest)))
    (cond (letter == 112) (problem_line place (fields rest))
    (cond (letter == 101) (edge_line place (fields rest))
    (Err UnknownKind)))

-- whether a letter or a word may end here: nothing follows, or a space
abbrev pub parted : List ℕ → Bool
parted [] = true
parted (b ∷ bs) = b == 32

-- what a line says that stands at this place
abbrev pub line_of : Place → List ℕ → Result Content LineFault
line_of place [] = Err UnknownKind
line_of place (letter ∷ rest) = cond (parted rest) (by_letter place letter rest) (Err UnknownKind)
