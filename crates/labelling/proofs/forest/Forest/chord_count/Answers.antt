use Rattle.std.proofs.Common.{not, ◌&&◌, count_by, sym, ap, ◌∙◌, subst, arith}
use Rattle.std.specs.List.{zip}
use Rattle.graph.specs.Forests.{WordsNeeded}
use Rattle.labelling.proofs.Chorded.{chords_counted}
use Rattle.labelling.proofs.Points.{yard_few}
use Rattle.yard.specs.Meaning.{yard_tracks}
use Rattle.labelling.proofs.forest.Forest.chord_count.Goals as goal

pub returns : goal.returns
returns c =
    let forest = c.args.self.now in
    let y = yard_tracks forest.yard.now in
    let counted = c.count_chords.ensures ∙ ap (λ z. count_by (λ p. not p.0.shut && not p.1) (zip z forest.flags)) c.tracks.ensures in
    subst (WordsNeeded y) (sym counted) (chords_counted y forest.flags (let few = yard_few forest.yard.now in let room = forest.room in omega arith) forest.told)
