use Rattle.std.proofs.Common.{◌≡◌, ◌||◌, rules}
use Rattle.std.proofs.lemmas.Bool.Decides.{Decides-at}
use Rattle.yard.specs.Meaning.{yard_tracks}
use Rattle.yard.specs.Partitions.{split}
use Rattle.yard.proofs.Answered.{decides_parts_split}
use Rattle.yard.proofs.Yard.are_parting.Goals as goal

pub returns-then-splits : goal.returns-then-splits
returns-then-splits c =
    let reps = c.partition_without-points.result.reps in
    let one = c.in_ok-first.ensures in
    let other = c.in_ok-second.ensures in
    let either : c.splits.result ≡ (split reps c.in_ok-first.first || split reps c.in_ok-second.second) = search rules in
    (one.0, other.0, Decides-at _ _ either (decides_parts_split (yard_tracks c.args.self.now) c.args.self.now.points reps _ _ _ _ one.0 other.0 one.1 other.1 c.partition_without-points.ensures))

pub returns-else-splits : goal.returns-else-splits
returns-else-splits c =
    let reps = c.partition_without-points.result.reps in
    let one = c.in_ok-first.ensures in
    let other = c.in_ok-second.ensures in
    let either : c.splits-else-splits.result ≡ (split reps c.in_ok-first.first || split reps c.in_ok-second.second) = search rules in
    (one.0, other.0, Decides-at _ _ either (decides_parts_split (yard_tracks c.args.self.now) c.args.self.now.points reps _ _ _ _ one.0 other.0 one.1 other.1 c.partition_without-points.ensures))
