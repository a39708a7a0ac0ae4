use Rattle.label.specs.Kinds.{xors}
use Rattle.circulation.specs.Units.{units}
use Rattle.circulation.proofs.Exists.{labelled, labelling_exists}
use Rattle.circulation.proofs.Units.{units_bridge, units_pair}
use Rattle.circulation.proofs.unit_laws.Goals as goal

pub returns : goal.returns
returns c = record {
  bridge = λ y n rounds needed enough t o none. units_bridge y n rounds needed enough t o (λ r h. none r h (labelled xors y (units r)) (labelling_exists xors y (units r)));
  pair = λ y n rounds needed enough t u ne o p m q same. units_pair y n rounds needed enough t u ne o p m q (λ r h. same r h (labelled xors y (units r)) (labelling_exists xors y (units r)));
}
