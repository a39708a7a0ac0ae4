use Rattle.std.proofs.Common.{◌≡◌, ◌≤◌, ℕ, List, length, get_or, sym, ap, ◌∙◌, subst, arith}
use Rattle.network.specs.declared.track.Track.{Track}
use Rattle.graph.specs.Forests.{WordsNeeded}
use Rattle.graph.proofs.Counting.{count_same}
use Rattle.circulation.proofs.Exists.{labelled, labelling_exists}
use Rattle.labelling.specs.Told.{TheLabelling}
use Rattle.labelling.proofs.Labelled.{chords_known, the_labelling}
use Rattle.yard.specs.Meaning.{yard_tracks}
use Rattle.labelling.proofs.writing.label_tracks.Goals as goal

pub draw_chords-requires-clause-enough : goal.draw_chords-requires-clause-enough
draw_chords-requires-clause-enough g c m n = let same = count_same n c.chord_count-needed.ensures in let le = c.if-words-needed.false in omega arith

pub returns : goal.returns
returns g c =
    let y = yard_tracks c.of-forest.result.yard.now in
    let same : y ≡ yard_tracks c.args.yard.now = c.of-forest.ensures in
    let G = g.K.Label.group in
    let drawn : ℕ → g.row.K.Denot = λ i. g.K.Label.drawn (get_or c.args.words.now i 0) in
    let needed = c.chord_count-needed.result in
    let long : length c.args.labels.now ≡ length (yard_tracks c.args.yard.now) = c.if-labels-tracks.false ∙ ap length c.tracks.ensures in
    let known = chords_known G y drawn _ (c.draw_chords.auto.labels ∙ long ∙ ap length (sym same)) c.draw_chords.ensures c.of-forest.result.flags c.of-forest.result.told in
    let enough : needed ≤ length c.args.words.now = let le = c.if-words-needed.false in omega arith in
    let written = c.settle_forest.ensures (labelled G y drawn) (labelling_exists G y drawn).balanced known in (
      long,
      subst (λ (z : List Track). WordsNeeded z needed) same c.chord_count-needed.ensures,
      enough,
      subst (λ (z : List Track). TheLabelling G z drawn needed c.settle_forest.new.labels) same (the_labelling G y drawn _ _ c.chord_count-needed.ensures written),
    )
