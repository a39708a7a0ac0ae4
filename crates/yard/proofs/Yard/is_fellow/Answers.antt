use Rattle.std.proofs.Common.{sym, refl, ap, ◌∙◌}
use Rattle.std.proofs.lemmas.Bool.Decides.{Decides-at}
use Rattle.graph.proofs.Fronts.{open_within}
use Rattle.yard.specs.Meaning.{yard_tracks}
use Rattle.yard.specs.Partitions.{split}
use Rattle.yard.proofs.Answered.{decides_fellow}
use Rattle.yard.proofs.Records.{is_track}
use Rattle.yard.proofs.Yard.is_fellow.Goals as goal

pub returns-then-is_open : goal.returns-then-is_open
returns-then-is_open c =
    let y = yard_tracks c.args.self.now in
    let points = c.partition_without in
    let low = open_within y c.args.number c.requires.open in
    let is = is_track y c.args.number low c.index-one.result.now c.index-one.ensures in
    let told = decides_fellow y c.args.self.now.points points.result.reps c.args.number c.args.other low (λ e. c.if-other-number.false (sym e)) c.requires.open (c.if-is_open.ensures.0 refl) c.requires.kept points.ensures in
    Decides-at _ _ (c.splits.ensures ∙ ap (split points.result.reps) is) told
