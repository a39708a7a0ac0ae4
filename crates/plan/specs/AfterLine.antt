-- What a line does to the tracks of a table. Assumes nothing.
use Rattle.std.specs.Prelude.{List}
use Rattle.network.specs.declared.track.Track.{Track}
use Rattle.table.specs.Laying.{lay_after}
use Rattle.layout.specs.Lines.{Content, comment, problem, edge}

-- the tracks of a table after a line: an edge is laid, and no other line changes them
abbrev pub after_line : List Track → Content → List Track
after_line ts (comment line) = ts
after_line ts (problem points edges) = ts
after_line ts (edge first second) = lay_after ts first second
