use Rattle.graph.specs.Yards.{here}
use Rattle.graph.proofs.Joins.{trans, turn, open_more}
use Rattle.graph.proofs.Cuts.{one_track_more}
use Rattle.graph.proofs.joining_laws.Goals as goal

pub returns : goal.returns
returns c = record {
  joined = record { itself = λ y a. here; back = λ y a b. turn; on = λ y a b d. trans; wider = λ y z same a b. open_more y z same };
  more = one_track_more;
}
