-- Where in a plan a line stands. Assumes nothing.
use Rattle.std.specs.Prelude.{ℕ, ◌+◌, ◌≤◌, Bool, false, ◌==◌}
use Rattle.layout.specs.declared.line.Place.{Place}
use Rattle.layout.specs.declared.line.Place.TheVariants.{Start, Within}
use Rattle.layout.specs.Lines.{Content, comment, problem, edge}

-- where the line after one stands
abbrev pub next_place : Place → Content → Place
next_place place (comment line) = place
next_place place (problem points edges) = Within points edges 0
next_place Start (edge first second) = Start
next_place (Within points edges laid) (edge first second) = Within points edges (laid + 1)

-- whether a plan may end here: it has its problem line and all its edges
abbrev pub complete : Place → Bool
complete Start = false
complete (Within points edges laid) = laid == edges

-- how many points there are, as far as is known
abbrev pub points_of : Place → ℕ
points_of Start = 0
points_of (Within points edges laid) = points

-- how many edges there are to be, as far as is known
abbrev pub edges_of : Place → ℕ
edges_of Start = 0
edges_of (Within points edges laid) = edges

-- how many edges came
abbrev pub laid_of : Place → ℕ
laid_of Start = 0
laid_of (Within points edges laid) = laid

-- within the limits of a plan
abbrev pub Sound : Place → Type 0
Sound place = (points_of place ≤ 512) × (edges_of place ≤ 2048) × (laid_of place ≤ edges_of place)
