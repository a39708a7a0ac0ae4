use Rattle.graph.proofs.Cuts.{bridge_not_around, not_around_bridge, pair_sym, pair_trans}
use Rattle.graph.proofs.Parting.{pair_by_ends}
use Rattle.graph.proofs.Classing.{some_class, one_class}
use Rattle.graph.proofs.Twos.{parts_are, are_parts}
use Rattle.graph.proofs.parting_laws.Goals as goal

pub returns : goal.returns
returns c = record {
  ends = record { bridge = λ y t. (λ b. (b.0, bridge_not_around y t b), λ h. not_around_bridge y t h.0 h.1); pair = pair_by_ends; two = λ y t u. (parts_are y t u, are_parts y t u) };
  pairs = record { back = pair_sym; on = pair_trans; some_class = some_class; one_class = one_class };
}
