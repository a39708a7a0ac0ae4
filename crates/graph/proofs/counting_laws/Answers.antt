use Rattle.graph.proofs.Counting.{count_same, pair_count_same}
use Rattle.graph.proofs.Grouping.{some_lead, one_lead}
use Rattle.graph.proofs.Classing.{in_one_class}
use Rattle.graph.proofs.counting_laws.Goals as goal

pub returns : goal.returns
returns c = record {
  groups = record { some_lead = some_lead; one_lead = one_lead };
  one = record { words = λ y m n. count_same; groups = λ y m n. count_same; bridges = λ y m n. count_same; classes = λ y m n. count_same; cut_pairs = λ y m n. pair_count_same; in_class = in_one_class };
}
