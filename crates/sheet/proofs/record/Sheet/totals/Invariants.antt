use Rattle.std.proofs.Common.{◌≡◌, length}
use Rattle.sheet.specs.Asked.{TotalsOf}
use Rattle.sheet.proofs.Counted.{Seen}
use Rattle.sheet.specs.Meaning.{sheet_marks, sheet_letter}
use Rattle.sheet.proofs.record.Sheet.totals.Given as goal

-- the marks below the number are counted
abbrev pub invariant-loop-number : goal.invariant-loop-number
invariant-loop-number l = record {
  room : length l.seen ≡ 2048;
  seen : Seen (sheet_marks l.self) l.seen l.number;
  totals : TotalsOf (sheet_marks l.self) l.number l.totals;
  letter : l.totals.letter ≡ sheet_letter l.self;
}
