use Rattle.std.proofs.Common.{◌≡◌, ◌≤◌, is_ok, List, length, take, sym, refl, ap, ◌∙◌, subst, inr, arith}
use Rattle.std.proofs.lemmas.List.{length-take-le}
use Rattle.std.proofs.lemmas.Bool.{cond-true}
use Rattle.std.proofs.lemmas.Bool.Decides.{not_from_Decides}
use Rattle.network.specs.declared.track.Track.{Track}
use Rattle.labelling.proofs.Points.{yard_few}
use Rattle.sheet.specs.declared.mark.Mark.{Mark}
use Rattle.sheet.specs.Marks.{MarksOf, WellLed}
use Rattle.yard.specs.Meaning.{yard_tracks}
use Rattle.judging.specs.Accepting.{Accepted}
use Rattle.judging.specs.Marking.{Marked}
use Rattle.judging.proofs.Acceptance.{are_led, accepted_confirmed}
use Rattle.judging.proofs.Sheeted.{accepted, marks_right, marks_led, first_marked}
use Rattle.judging.proofs.verdict.judge.Given as given
use Rattle.judging.proofs.verdict.judge.Goals as goal
use Rattle.judging.proofs.verdict.judge.Goals.{After-rewrite}

pub are_confirmed-requires : goal.are_confirmed-requires
are_confirmed-requires g c = are_led g.K.Label.group c.args.labels.now c.of-leads.result.leads c.of-leads.ensures (yard_tracks c.args.yard.now) (c.balances.ensures.0 c.if-not-balances.false)

pub returns-then-not-are_confirmed : goal.returns-then-not-are_confirmed
returns-then-not-are_confirmed g c =
    let b = c.balances.ensures.0 c.if-not-balances.false in
    (inr (inr (b, (λ a. not_from_Decides _ c.are_confirmed.ensures c.if-not-are_confirmed.true (accepted_confirmed g.K.Label.group c.args.labels.now c.of-leads.result.leads c.of-leads.ensures (yard_tracks c.args.yard.now) b a)), refl)), refl)

-- what is known once the sheet is to be written: the labels are accepted, and the marks right, led well and few
module _ (g : given.Over) (c : After-rewrite g) where
  abbrev y : List Track
  y = yard_tracks c.args.yard.now

  abbrev marks : List Mark
  marks = take (length c.tracks-tracks.result.now) c.marks-marks.result

  pub told : Accepted g.K.Label.group y c.args.labels.now × MarksOf y marks × WellLed marks × (length marks ≤ 2048)
  told =
      let G = g.K.Label.group in
      let ks = c.args.labels.now in
      let leads = c.of-leads.result.leads in
      let d = c.of-leads.ensures in
      let e = c.tracks-tracks.ensures in
      let few = yard_few c.args.yard.now in
      let b = c.balances.ensures.0 c.if-not-balances.false in
      let confirmed = c.are_confirmed.ensures.0 c.if-not-are_confirmed.false in
      let n = length c.tracks-tracks.result.now in
      let long : length marks ≡ length y = length-take-le n c.marks-marks.result (omega (arith, ap length e, c.marks-marks.ensures.long)) ∙ ap length e in
      let marked : Marked y leads marks (length y) = subst (λ (z : List Track). Marked z leads marks (length z)) e (first_marked _ leads c.marks-marks.result n c.marks-marks.ensures.marks) in
      (accepted G ks leads d y b confirmed marks long marked, marks_right G ks leads d y b confirmed marks long marked, marks_led G ks leads d y b confirmed marks long marked, omega arith)

pub unwrap-requires : goal.unwrap-requires
unwrap-requires g c = let (_, _, well, short) = told g c in c.rewrite.ensures.ok.1 (short, well)

pub returns : goal.returns
returns g c =
    let (good, right, _, _) = told g (goal.at.returns g c).After-rewrite in
    let done = ap is_ok c.unwrap.ensures in
    (good, subst (MarksOf (yard_tracks c.args.yard.now)) (sym (c.rewrite.ensures.marks ∙ cond-true _ _ _ done)) right, c.rewrite.ensures.letter ∙ cond-true _ _ _ done ∙ c.LETTER.ensures)
