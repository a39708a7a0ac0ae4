use Rattle.std.proofs.Common.{◌≡◌, ◌≤◌, false, length, replicate, is_ok, sym, ap, ◌∙◌, arith}
use Rattle.std.proofs.lemmas.List.{length-take-le}
use Rattle.std.proofs.lemmas.Bool.{cond-true, eq-eqb}
use Rattle.yard.specs.Meaning.{yard_tracks}
use Rattle.labelling.proofs.Points.{yard_few}
use Rattle.labelling.proofs.Flags.{flags_long, flags_told}
use Rattle.labelling.proofs.forest.Forest.of.Goals as goal

pub invariant_of-result : goal.invariant_of-result
invariant_of-result c =
    let y = yard_tracks c.args.yard.now in
    let n = length c.tracks.result.now in
    let same : n ≡ length y = ap length c.tracks.ensures in
    let few : n ≤ 2048 = let f = yard_few c.args.yard.now in omega arith in
    let long : length c.forest.new.flags ≡ n = c.forest.auto.flags ∙ length-take-le n (replicate 2048 false) few in
    let before : length c.forest.new.flags ≡ length y = long ∙ same in
    record { room = flags_long y n 2048 c.forest.new.flags long few; told = flags_told y n 2048 c.forest.new.flags long few same (c.forest.ensures.told.told (ap is_ok (c.forest.ensures.value ∙ cond-true _ _ _ (eq-eqb _ _ (sym c.forest.ensures.told.long ∙ before))))) }
