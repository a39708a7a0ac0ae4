use Rattle.graph.proofs.Examples.{worked_yards}
use Rattle.graph.proofs.worked_yards.Goals as goal

pub returns : goal.returns
returns c = worked_yards
