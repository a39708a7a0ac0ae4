use Rattle.std.proofs.Common.{◌≡◌, length}
use Rattle.judging.specs.Marking.{Marked}
use Rattle.judging.proofs.leads.Leads.marks.Given as goal

-- the tracks below the number have their marks
abbrev pub invariant-loop-number : goal.invariant-loop-number
invariant-loop-number l = record {
  long : length l.marks ≡ 2048;
  marked : Marked l.tracks l.self.leads l.marks l.number;
}
