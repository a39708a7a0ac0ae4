use Rattle.std.proofs.Common.{ℕ, ◌+◌, ◌<◌, length, get_or, sym, subst, arith, rules}
use Rattle.graph.specs.Counts.{Count, start}
use Rattle.graph.specs.Forests.{Chord}
use Rattle.graph.proofs.Counting.{one_more, none_more, count_before}
use Rattle.circulation.proofs.Unique.{chords}
use Rattle.labelling.specs.Settled.{ChordsDrawn}
use Rattle.labelling.proofs.Chorded.{chord_told, no_chord_told, drawn_more, zero_more}
use Rattle.labelling.proofs.Points.{read_low, read_is}
use Rattle.yard.specs.Meaning.{yard_tracks}
use Rattle.labelling.proofs.forest.Forest.draw_chords.Given as given
use Rattle.labelling.proofs.forest.Forest.draw_chords.Goals as goal
use Rattle.labelling.proofs.forest.Forest.draw_chords.Goals.{Then-is_chord, then-is_chord, else-is_chord}

-- a word is there for this chord
word_there : (g : given.Over) (c : Then-is_chord g) → c.loop-number.used < length c.args.words.now
word_there g c =
    let forest = c.args.self.now in
    let y = yard_tracks forest.yard.now in
    let n = c.loop-number.number in
    let all = chords y (length y) in
    let chord = chord_told y n _ _ (read_is forest.yard.now _ c.tracks-one-items.ensures n c.loop-number-test.true) (forest.told n) _ c.is_chord.ensures c.if-is_chord.true in
    let before = count_before c.loop-number.invariant.0 chord (read_low forest.yard.now _ c.tracks-one-items.ensures n c.loop-number-test.true) all.1 in
    let enough = c.requires.enough all.0 all.1 in
    omega arith

pub loop-number-init : goal.loop-number-init
loop-number-init g c = (start, record { chord = λ t i h. absurd (omega arith); other = λ t h. absurd (omega arith) })

pub draw_word-requires : goal.draw_word-requires
draw_word-requires g c = word_there g (goal.at.draw_word-requires g c).Then-is_chord

pub overflow_add-used : goal.overflow_add-used
overflow_add-used g c = let h = word_there g (goal.at.overflow_add-used g c).Then-is_chord in search rules

pub loop-number-preserved : goal.loop-number-preserved
loop-number-preserved g c =
    let forest = c.args.self.now in
    let y = yard_tracks forest.yard.now in
    let n = c.loop-number.number in
    let ks = c.loop-number.labels in
    let drawn : ℕ → g.row.K.Denot = λ i. g.K.Label.drawn (get_or c.args.words.now i 0) in
    let is = read_is forest.yard.now _ c.tracks-one-items.ensures n c.loop-number-test.true in
    let low : n < length ks = let long = c.requires.long in omega (arith, c.loop-number.auto.labels, read_low forest.yard.now _ c.tracks-one-items.ensures n c.loop-number-test.true) in
    elim c.if-is_chord.branch [
      | then-is_chord w ↦
          let chord = chord_told y n _ _ is (forest.told n) _ c.is_chord.ensures w.if-is_chord.true in (
            subst (Count (Chord y) (n + 1)) (sym w.used-is) (one_more (Chord y) n c.loop-number.used c.loop-number.invariant.0 chord),
            subst (λ ls. ChordsDrawn g.K.Label.group y drawn ls (n + 1)) (sym w.labels-is) (drawn_more g.K.Label.group y drawn ks n low c.loop-number.invariant.1 _ c.loop-number.used c.loop-number.invariant.0 chord w.draw_word.ensures),
          )
      | else-is_chord w ↦
          let none = no_chord_told y n _ _ is (forest.told n) _ c.is_chord.ensures w.if-is_chord.false in (
            subst (Count (Chord y) (n + 1)) (sym w.used-is) (none_more (Chord y) n c.loop-number.used c.loop-number.invariant.0 none),
            subst (λ ls. ChordsDrawn g.K.Label.group y drawn ls (n + 1)) (sym w.labels-is) (zero_more g.K.Label.group y drawn ks n low c.loop-number.invariant.1 _ none w.zero.ensures),
          )
    ]
