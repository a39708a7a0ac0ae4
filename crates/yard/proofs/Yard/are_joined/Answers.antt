use Rattle.std.proofs.Common.{sym}
use Rattle.std.proofs.lemmas.Bool.Decides.{Decides-at}
use Rattle.yard.specs.Meaning.{yard_tracks}
use Rattle.yard.proofs.Answered.{decides_beyond, decides_within}
use Rattle.yard.proofs.Yard.are_joined.Goals as goal

pub returns-then-not-are_points : goal.returns-then-not-are_points
returns-then-not-are_points c = decides_beyond (yard_tracks c.args.self.now) c.args.self.now.points c.args.a c.args.b (sym c.if-not-are_points.ensures)

pub returns : goal.returns
returns c =
    Decides-at _ _ c.same.ensures
    (decides_within (yard_tracks c.args.self.now) c.args.self.now.points _ c.args.a c.args.b c.partition_without.ensures (sym c.if-not-are_points.ensures))
