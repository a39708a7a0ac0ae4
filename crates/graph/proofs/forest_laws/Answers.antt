use Rattle.graph.proofs.Acyclic.{acyclic}
use Rattle.graph.proofs.Leaves.{leaf}
use Rattle.graph.proofs.Parting.{spans}
use Rattle.graph.proofs.forest_laws.Goals as goal

pub returns : goal.returns
returns c = record { acyclic = acyclic; leaf = leaf; spans = λ y keep forest a b j. spans y keep forest j }
