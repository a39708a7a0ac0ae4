use Rattle.std.proofs.Common.{take}
use Rattle.written.specs.Pages.{Puts}
use Rattle.written.proofs.page.Page.put.Given as goal

-- the front of the text is put
abbrev pub invariant-loop-byte : goal.invariant-loop-byte
invariant-loop-byte l = Puts l.initial.self (take l.byte-index l.text) l.self
