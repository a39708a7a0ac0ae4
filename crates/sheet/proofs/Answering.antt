-- Answers by marks are answers by the yard that the marks are of. Assumes nothing.
use Rattle.std.proofs.Common.{◌≡◌, ℕ, ◌<◌, Bool, true, not, ◌&&◌, eqb, List, [], ◌∷◌, length, Ok, Decides, refl, ap, subst, arith}
use Rattle.std.proofs.lemmas.Bool.{false≢true}
use Rattle.std.proofs.lemmas.Bool.Decides.{Decides-and, Decides-or, Decides-not, Decides-eqb, Decides-like, nat_tests}
use Rattle.network.specs.declared.track.Track.{Track}
use Rattle.graph.specs.Classes.{LeadsClass}
use Rattle.graph.specs.Counts.{Count, PairCount}
use Rattle.graph.specs.Yards.{Bridge, CutPair, Parts}
use Rattle.graph.proofs.Counting.{count_like, pair_count_like}
use Rattle.graph.proofs.Twos.{parts_are, are_parts}
use Rattle.sheet.specs.declared.mark.Mark.{Mark}
use Rattle.sheet.specs.declared.mark.Mark.TheVariants.{Shut, Single, Mates, Alone}
use Rattle.sheet.specs.declared.total.Totals.{Totals}
use Rattle.sheet.specs.Asked.{mark_answer, is_single, parting_by, TotalsOf, TotalsTold}
use Rattle.sheet.specs.Marks.{mark_at, MarksOf, is_mates, lead_in}
use Rattle.sheet.proofs.Marks.{single_bridge, bridge_single, lead_class, class_lead, together_pair, pair_together}

-- where a mark is answered, the track is there and has it
pub answered : (ms : List Mark) (t : ℕ) (m : Mark) → Ok m ≡ mark_answer ms t → (t < length ms) × (m ≡ mark_at ms t)
answered ms t m e = grind (arith, nat_tests)

-- the test of a single mark
single_is : (m : Mark) → is_single m ≡ true → m ≡ Single
single_is Shut e = absurd (false≢true e)
single_is Single e = refl
single_is (Mates l s) e = absurd (false≢true e)
single_is Alone e = absurd (false≢true e)

decides_self : (b : Bool) → Decides b (b ≡ true)
decides_self b = (λ e. e, λ e. e)

module _ (y : List Track) (ms : List Mark) (right : MarksOf y ms) where
  low : (t : ℕ) → t < length ms → t < length y
  low t h = omega (arith, right.one_each)

  decides_single : (t : ℕ) → t < length y → Decides (is_single (mark_at ms t)) (Bridge y t)
  decides_single t h = (λ e. single_bridge y ms right t h (single_is _ e), λ b. ap is_single (bridge_single y ms right t h b))

  decides_mates : (t u : ℕ) → t < length y → u < length y → Decides (not (eqb t u) && (is_mates (mark_at ms t) && (is_mates (mark_at ms u) && eqb (lead_in (mark_at ms t)) (lead_in (mark_at ms u))))) (CutPair y t u)
  decides_mates t u h k =
      Decides-like _
      (λ w. together_pair y ms right t u h k w.0 (w.1.0, w.1.1.0, w.1.1.1))
      (λ p. let w = pair_together y ms right t u h k p in (p.different, (w.0, (w.1, w.2))))
      (Decides-and _ _ (Decides-not _ (Decides-eqb t u)) (Decides-and _ _ (decides_self _) (Decides-and _ _ (decides_self _) (Decides-eqb _ _))))

  pub decides_parting : (t u : ℕ) → t < length ms → u < length ms → Decides (parting_by t u (mark_at ms t) (mark_at ms u)) (Parts y (t ∷ u ∷ []))
  decides_parting t u h k =
      Decides-like _ (are_parts y t u) (parts_are y t u)
      (Decides-or _ _ (decides_single t (low t h)) (Decides-or _ _ (decides_single u (low u k)) (decides_mates t u (low t h) (low u k))))

  pub totals_told : (totals : Totals) → TotalsOf ms (length ms) totals → TotalsTold y totals
  totals_told totals c =
      let long = right.one_each in
      record {
        bridges = subst (λ (n : ℕ). Count (Bridge y) n totals.singles) long (count_like (λ t h e. (decides_single t (low t h)).0 e) (λ t h b. (decides_single t (low t h)).1 b) c.singles);
        classes = subst (λ (n : ℕ). Count (LeadsClass y) n totals.classes) long (count_like (λ t h e. lead_class y ms right t (low t h) e) (λ t h e. class_lead y ms right t (low t h) e) c.classes);
        pairs = subst (λ (n : ℕ). PairCount (CutPair y) n totals.pairs) long (pair_count_like (λ u t l h w. together_pair y ms right u t (omega (arith, long)) (low t h) (omega arith) w) (λ u t l h p. pair_together y ms right u t (omega (arith, long)) (low t h) p) c.pairs);
      }
