-- The lines that the code gives, with what their references point to. Assumes nothing.
use Rattle.std.specs.Prelude.{Some, None, Ok, Err, Option, Result}
use Rattle.layout.specs.declared.faults.LineFault.{LineFault}
use Rattle.layout.specs.declared.faults.FaultAt.{FaultAt}
use Rattle.layout.specs.declared.faults.FileFault.{FileFault}
use Rattle.layout.specs.declared.line.Line.{Line}
use Rattle.layout.specs.declared.line.Line.TheVariants.{Comment, Problem, Edge}
use Rattle.layout.specs.Lines.{Content, comment, problem, edge}

-- what a line says
abbrev pub content : Line → Content
content (Comment line) = comment line.now
content (Problem points edges) = problem points edges
content (Edge first second) = edge first second

-- the same of a line that may be faulty
abbrev pub content_of : Result Line LineFault → Result Content LineFault
content_of (Ok line) = Ok (content line)
content_of (Err fault) = Err fault

-- the same, with the number of a faulty line
abbrev pub content_at : Result Line FaultAt → Result Content FaultAt
content_at (Ok line) = Ok (content line)
content_at (Err fault) = Err fault

-- the same of a next line, which may be missing too
abbrev pub next_content : Result (Option Line) FileFault → Result (Option Content) FileFault
next_content (Ok None) = Ok None
next_content (Ok (Some line)) = Ok (Some (content line))
next_content (Err fault) = Err fault
