use Rattle.std.proofs.Common.{◌≡◌, ◌<◌, length, ap, ◌∙◌, arith, length-set}
use Rattle.network.specs.declared.track.Track.{Track}
use Rattle.graph.specs.Yards.{track}
use Rattle.graph.proofs.Fronts.{blank, read}
use Rattle.judging.specs.Leads.{lead}
use Rattle.judging.specs.Marking.{mark_by, size_of}
use Rattle.judging.proofs.Marking.{marked_more, marked_own}
use Rattle.judging.proofs.leads.Leads.marks.Goals as goal

pub loop-number-preserved : goal.loop-number-preserved
loop-number-preserved c =
    let y = c.args.tracks.now in
    let leads = c.args.self.now.leads in
    let n = c.loop-number.number in
    let ms = c.loop-number.marks in
    let v = c.loop-number.invariant in
    let sizes = c.sizes-sizes.result in
    let few = c.requires in
    let room : n < length ms = omega (arith, v.long) in
    let is : c.mark_of.result ≡ mark_by (track y n).shut (lead leads n) (size_of sizes (lead leads n)) = c.mark_of.ensures ∙ ap (λ (x : Track). mark_by x.shut (lead leads n) (size_of sizes (lead leads n))) (read y n blank c.loop-number-test.true) in record {
      long = length-set ms n _ ∙ v.long;
      marked = marked_more y leads ms n v.marked room _ (marked_own y leads ms n v.marked room _ sizes c.sizes-sizes.ensures.sizes (λ l e. let low = c.args.self.now.low n l e in omega arith) is);
    }
