use Rattle.std.proofs.Common.{◌≡◌, false, rules, tests, arith}
use Rattle.std.proofs.lemmas.Bool.Decides.{nat_tests}
use Rattle.std.proofs.lemmas.Iterator.{YieldsList-from_slice, cases_from_all}
use Rattle.network.specs.Tracks.{no_track, are_points}
use Rattle.network.specs.declared.track.Track.{Track}
use Rattle.boundary.proofs.judge.Goals as goal

pub returns-then-not-all : goal.returns-then-not-all
returns-then-not-all c =
    let cases = cases_from_all {all = c.args.tracks.now} _ _ _ (λ (t : Track). Unit {0}) (λ (t : Track). are_points t.first t.second ≡ false) c.all.ensures.ran (YieldsList-from_slice c.args.tracks.now cc) (λ x q k. search (rules, tests)) (λ x q k. search (rules, tests)) in
    let found = rw c.if-not-all.true at cases in
    let beyond = found.2 no_track in
    (omega arith, λ points. let within = points found.0 found.1 in grind (arith, nat_tests))
