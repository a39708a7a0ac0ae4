use Rattle.written.specs.Lines.{sheet_text}
use Rattle.written.proofs.Rows.{Underway}
use Rattle.written.proofs.page.Page.put_sheet.Given as goal

abbrev pub invariant-loop-number : goal.invariant-loop-number
invariant-loop-number l = Underway (sheet_text l.tracks l.marks) l.fn.self l.self l.number-iterator
