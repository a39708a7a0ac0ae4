use Rattle.std.proofs.Common.{ap, ◌∙◌}
use Rattle.std.proofs.lemmas.Bool.Decides.{Decides-at}
use Rattle.yard.specs.Meaning.{yard_tracks}
use Rattle.yard.specs.Partitions.{split}
use Rattle.yard.proofs.Answered.{decides_bridge_split}
use Rattle.yard.proofs.Yard.is_bridge.Goals as goal

pub returns : goal.returns
returns c =
    let y = yard_tracks c.args.self.now in
    let points = c.partition_without in
    let found = c.in_ok-one.ensures in
    let told = decides_bridge_split y c.args.self.now.points points.result.reps c.args.number found.0 points.ensures in
    (found.0, Decides-at _ _ (c.splits.ensures ∙ ap (split points.result.reps) found.1) told)
