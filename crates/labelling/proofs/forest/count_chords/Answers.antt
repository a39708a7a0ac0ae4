use Rattle.std.proofs.Common.{ℕ, Bool, not, ◌&&◌, cond, rules, arith}
use Rattle.std.proofs.lemmas.Iterator.{YieldsList-from_map, YieldsList-from_slice, YieldsList-from_zip}
use Rattle.std.proofs.lemmas.Iterator.Consumers.{YieldsList-at, fits_by_from_yields_list, sum_by_from_yields_List}
use Rattle.std.proofs.lemmas.List.Sums.{count_by-le-length}
use Rattle.std.proofs.lemmas.Slice.Zip.{length-zip}
use Rattle.std.specs.List.{zip}
use borrow.Author.Tests.{tests}
use Rattle.network.specs.declared.track.Track.{Track}
use Rattle.labelling.proofs.forest.count_chords.Goals as goal

-- whether a track is a chord, by its flag
abbrev test : Track × Bool → Bool
test p = not p.0.shut && not p.1

-- one for a chord, and none for any other track
abbrev ones : Track × Bool → ℕ
ones p = cond (test p) 1 0

pub sum-requires-clause-fits : goal.sum-requires-clause-fits
sum-requires-clause-fits c =
    let all = zip c.args.tracks.now c.args.flags.now in
    fits_by_from_yields_list ones all c.map.result _
    (YieldsList-from_map _ ones (YieldsList-at c.map.ensures.source (YieldsList-from_zip (YieldsList-from_slice c.args.tracks.now (cc)) (YieldsList-from_slice c.args.flags.now (cc)))) c.map.ensures.closure (λ x r q k. search (rules, tests)))
    (omega (arith, count_by-le-length test all, length-zip c.args.tracks.now c.args.flags.now))

pub returns : goal.returns
returns c =
    sum_by_from_yields_List ones (zip c.args.tracks.now c.args.flags.now) c.map.result _ c.sum.ensures.ran
    (YieldsList-from_map _ ones (YieldsList-at c.map.ensures.source (YieldsList-from_zip (YieldsList-from_slice c.args.tracks.now (cc)) (YieldsList-from_slice c.args.flags.now (cc)))) c.map.ensures.closure (λ x r q k. search (rules, tests)))
