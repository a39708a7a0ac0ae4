use Rattle.std.proofs.Common.{◌≡◌, length}
use Rattle.judging.specs.Marking.{Sized}
use Rattle.judging.proofs.leads.Leads.sizes.Given as goal

-- the leads of the tracks below the index are counted
abbrev pub invariant-loop-lead : goal.invariant-loop-lead
invariant-loop-lead l = record {
  long : length l.sizes ≡ 2048;
  counted : Sized l.self.leads l.sizes l.lead-index;
}
