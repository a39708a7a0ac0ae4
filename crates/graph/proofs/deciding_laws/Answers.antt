use Rattle.graph.proofs.Decide.{joined?, decides_joined}
use Rattle.graph.proofs.Tests.{bridge?, pair?, in_forest?, decides_bridge, decides_pair, decides_forest}
use Rattle.graph.proofs.Grouping.{touched?, decides_touched}
use Rattle.graph.proofs.Parting.{parts?, decides_parts}
use Rattle.graph.proofs.deciding_laws.Goals as goal

pub returns : goal.returns
returns c = record {
  joined = (joined?, decides_joined);
  bridge = (bridge?, decides_bridge);
  pair = (pair?, decides_pair);
  parts = (parts?, decides_parts);
  touched = (touched?, decides_touched);
  forest = (in_forest?, decides_forest);
}
