use Rattle.std.proofs.Common.{length, sym, refl, ap, subst, arith, below_more, length-append, length-drop, length-take}
use Rattle.std.proofs.lemmas.List.{length-take-le}
use Rattle.std.proofs.lemmas.Bool.{false≢true}
use Rattle.std.proofs.lemmas.Bool.Decides.{not_from_Decides}
use Rattle.graph.specs.Forests.{WordsNeeded}
use Rattle.graph.proofs.Counting.{count_le}
use Rattle.label.specs.declared.xor.Xor.{Xor}
use Rattle.yard.specs.Meaning.{yard_tracks}
use Rattle.labelling.proofs.Points.{yard_few}
use Rattle.judging.proofs.Confirming.{rounds_confirm, confirmed_rounds}
use Rattle.judging.proofs.leads.Leads.are_confirmed.Goals as goal

pub slice_bounds-words-end : goal.slice_bounds-words-end
slice_bounds-words-end c = let n = count_le c.words_needed-needed.ensures in let few = yard_few c.args.yard.now in omega (arith, c.unit_words-words.ensures.long)

pub slice_bounds-round_agrees-end : goal.slice_bounds-round_agrees-end
slice_bounds-round_agrees-end c = let n = count_le c.words_needed-needed.ensures in let few = yard_few c.args.yard.now in sym (length-take-le _ _ (omega (arith, c.unit_words-words.ensures.long)))

pub round_agrees-requires-clause-needed : goal.round_agrees-requires-clause-needed
round_agrees-requires-clause-needed c =
    let n = count_le c.words_needed-needed.ensures in
    let few = yard_few c.args.yard.now in
    subst (λ k. WordsNeeded (yard_tracks c.args.yard.now) k) (sym (length-take-le _ _ (omega (arith, c.unit_words-words.ensures.long)))) c.words_needed-needed.ensures

pub returns-then-not-round_agrees : goal.returns-then-not-round_agrees
returns-then-not-round_agrees c = (λ e. absurd (false≢true e), λ all. absurd (not_from_Decides _ c.round_agrees.ensures c.if-not-round_agrees.true (confirmed_rounds _ _ c.args.self.now.low all c.loop-round.round)))

pub loop-round-preserved : goal.loop-round-preserved
loop-round-preserved c = record {
  room = let few = yard_few c.args.yard.now in omega (arith, ap length c.tracks-count.ensures, c.round_agrees.auto.labels, length-append {A = Xor}, length-take {A = Xor}, length-drop {A = Xor});
  agree = below_more _ _ c.loop-round.invariant.agree (c.round_agrees.ensures.0 c.if-not-round_agrees.false);
}

pub returns : goal.returns
returns c = (λ _. rounds_confirm (yard_tracks c.args.yard.now) c.args.self.now.leads c.words_needed-needed.result c.loop-round.round c.words_needed-needed.ensures (omega arith) c.requires c.loop-round.invariant.agree, λ _. refl)
