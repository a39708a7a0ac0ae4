-- The labelling that is written is the one that there is. Assumes nothing.
use Rattle.std.proofs.Common.{◌≡◌, ℕ, ◌<◌, ◌≤◌, Bool, true, List, length, take, Decides, sym, ◌∙◌, subst, ⊎_elim, arith}
use Rattle.std.proofs.lemmas.List.{get_or_past}
use Rattle.std.proofs.lemmas.Bool.{cases_Bool, cases_lt, true≢false}
use Rattle.std.proofs.lemmas.Bool.Decides.{not_from_Decides}
use Rattle.network.specs.Tracks.{Points}
use Rattle.network.specs.declared.track.Track.{Track}
use Rattle.label.specs.Groups.{Group}
use Rattle.graph.specs.Degrees.{flagged, NoneAlone}
use Rattle.graph.specs.Forests.{InForest, WordsNeeded}
use Rattle.graph.specs.Yards.{track}
use Rattle.graph.proofs.Decide.{joined_or}
use Rattle.graph.proofs.Fronts.{open_within}
use Rattle.graph.proofs.Peeled.{none_left}
use Rattle.circulation.specs.Labels.{label, Balanced}
use Rattle.circulation.specs.Labellings.{Labelling}
use Rattle.circulation.proofs.Exists.{labelled, labelling_exists}
use Rattle.circulation.proofs.Unique.{chords, same_labels, labelling_unique}
use Rattle.labelling.specs.Settled.{Known, ChordsDrawn}
use Rattle.labelling.specs.Told.{TheLabelling}
use Rattle.graph.proofs.Counting.{count_before}
use Rattle.labelling.specs.declared.ends.End.TheVariants.{First, Second}
use Rattle.labelling.specs.declared.leaves.Leaves.{Leaves}
use Rattle.labelling.proofs.Points.{end_low}
use Rattle.yard.specs.Meaning.{yard_tracks}

module _ {K : Type 0} (G : Group K) (y : List Track) where
  -- where no track is alone at a point, all is settled
  pub all_settled : (s : Leaves) → yard_tracks s.yard.now ≡ y → (L ks : List K) → ((p : ℕ) → p < 512 → NoneAlone y s.left p) → length ks ≡ length y → Balanced G y L → Known G L ks s.left → ks ≡ L
  all_settled s same L ks quiet long b k =
      let points = subst Points same s.yard.now.points in
      same_labels G ks L (long ∙ sym b.one_each) (λ t.
      k.settled t (none_left y s.left (subst (λ (z : List Track). (u : ℕ) → flagged s.left u ≡ true → InForest z u) same s.forest) (λ u f. let low = open_within y u f.0 in (end_low y First u low points, end_low y Second u low points)) quiet t))

  module _ (drawn : ℕ → K) (ks : List K) (long : length ks ≡ length y) (d : ChordsDrawn G y drawn ks (length y)) where
    -- with the chords drawn, the forest alone is to be settled
    pub chords_known : (left : List Bool) → ((t : ℕ) → Decides (flagged left t) (InForest y t)) → Known G (labelled G y drawn) ks left
    chords_known left told = record {
      zero_left = λ t f. let w = (told t).0 f in d.other t (open_within y t w.0) (λ q. w.1 q.1);
      settled = λ t f. ⊎_elim (inside t (not_from_Decides _ (told t) f)) (past t) (cases_lt t (length y));
    }
      where
        is : Labelling G y drawn (labelled G y drawn)
        is = labelling_exists G y drawn

        inside : (t : ℕ) → ¬ InForest y t → t < length y → label G ks t ≡ label G (labelled G y drawn) t
        inside t n low =
            ⊎_elim
            (λ s. d.other t low (λ q. true≢false (sym s ∙ q.0)) ∙ sym (is.balanced.shut_zero t s))
            (λ o. ⊎_elim (λ j. let (i, c) = chords y t in d.chord t i low c (o, j) ∙ sym (is.carries t i c (o, j))) (λ m. absurd (n (o, m))) (joined_or (take t y) (track y t).first (track y t).second))
            (cases_Bool (track y t).shut)

        past : (t : ℕ) → length y ≤ t → label G ks t ≡ label G (labelled G y drawn) t
        past t h = get_or_past ks t G.zero (omega arith) ∙ sym (get_or_past (labelled G y drawn) t G.zero (omega (arith, is.balanced.one_each)))

  pub the_labelling : (drawn : ℕ → K) (n : ℕ) (ks : List K) → WordsNeeded y n → ks ≡ labelled G y drawn → TheLabelling G y drawn n ks
  the_labelling drawn n ks needed e =
      let is = subst (Labelling G y drawn) (sym e) (labelling_exists G y drawn) in
      record {
        labelling = is;
        only = λ ms m. labelling_unique G y drawn ms ks m is;
        balanced = is.balanced;
        beyond = λ other same. record { balanced = is.balanced; carries = λ t i c q. is.carries t i c q ∙ sym (same i (count_before c q (open_within y t q.0) needed)) };
      }
