use Rattle.std.proofs.Common.{sym, ◌∙◌, subst}
use Rattle.graph.specs.Degrees.{Alone}
use Rattle.graph.proofs.Peeled.{alone_from, one_from}
use Rattle.yard.specs.Meaning.{yard_tracks}
use Rattle.labelling.proofs.leaves.Leaves.alone_at.Goals as goal

pub returns-then-degree-eq1-clause-some : goal.returns-then-degree-eq1-clause-some
returns-then-degree-eq1-clause-some c =
    let leaves = c.args.self.now in
    let y = yard_tracks leaves.yard.now in
    let d = leaves.counted c.args.point c.requires in
    subst (Alone y leaves.left c.args.point) (sym d.1) (alone_from y leaves.left c.args.point leaves.forest (sym d.0 ∙ c.if-degree-eq1.true))

pub returns-else-degree-eq1-clause-none : goal.returns-else-degree-eq1-clause-none
returns-else-degree-eq1-clause-none c t alone =
    let leaves = c.args.self.now in
    let d = leaves.counted c.args.point c.requires in
    c.if-degree-eq1.false (d.0 ∙ one_from (yard_tracks leaves.yard.now) leaves.left c.args.point leaves.forest t alone)
