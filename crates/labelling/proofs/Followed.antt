-- One step of the settling: the track that is alone at a point is settled and taken off. Assumes nothing.
use Rattle.std.proofs.Common.{◌≡◌, ℕ, zero, suc, ◌<◌, Bool, true, false, cond, eqb, ◌≢◌, ◌⊎◌, List, [], ◌∷◌, length, set, sym, ap, ◌∙◌, subst, inl, inr, ⊎_elim, arith}
use Rattle.std.proofs.lemmas.List.{get_or-set_same, get_or-set_other}
use Rattle.std.proofs.lemmas.Bool.{cases_eq, cases_Bool, true≢false, false≢true, eq-eqb, ne_eqb}
use Rattle.network.specs.Tracks.{Points}
use Rattle.network.specs.declared.track.Track.{Track}
use Rattle.label.specs.Groups.{Group}
use Rattle.graph.specs.Degrees.{flagged, Alone, NoneAlone}
use Rattle.graph.specs.Forests.{InForest, Touches}
use Rattle.graph.specs.Yards.{track}
use Rattle.graph.proofs.Fronts.{open_within}
use Rattle.graph.proofs.Peeled.{two_ends}
use Rattle.circulation.specs.Labels.{label, Balanced}
use Rattle.circulation.specs.Labellings.{owed}
use Rattle.circulation.proofs.Values.{owed_is}
use Rattle.labelling.specs.Settled.{Known}
use Rattle.labelling.specs.declared.ends.End.TheVariants.{First, Second}
use Rattle.labelling.specs.declared.leaves.Leaves.{Leaves}
use Rattle.labelling.proofs.Points.{end_low, yard_few}
use Rattle.yard.specs.Meaning.{yard_tracks}

-- how many flags are set
abbrev pub flags_set : List Bool → ℕ
flags_set [] = 0
flags_set (true ∷ l) = suc (flags_set l)
flags_set (false ∷ l) = flags_set l

pub fewer_set : (l : List Bool) (t : ℕ) → flagged l t ≡ true → flags_set (set l t false) < flags_set l
fewer_set [] t e = absurd (false≢true e)
fewer_set (true ∷ l) zero e = omega arith
fewer_set (false ∷ l) zero e = absurd (false≢true e)
fewer_set (true ∷ l) (suc t) e = let h = fewer_set l t e in omega arith
fewer_set (false ∷ l) (suc t) e = fewer_set l t e

-- at the point `at` the track n alone is left
module _ (s : Leaves) (y : List Track) (same : yard_tracks s.yard.now ≡ y) (at n : ℕ) (told : Alone (yard_tracks s.yard.now) s.left at n) where
  pub alone : Alone y s.left at n
  alone = subst (λ (z : List Track). Alone z s.left at n) same told

  points : Points y
  points = subst Points same s.yard.now.points

  forest : InForest y n
  forest = subst (λ (z : List Track). InForest z n) same (s.forest n alone.flag)

  pub step_there : n < length y
  step_there = open_within y n forest.0

  in_left : n < length s.left
  in_left = let few = yard_few s.yard.now in let room = s.room in omega (arith, step_there, ap length same)

  -- the other end
  abbrev onward : ℕ
  onward = cond (eqb (track y n).first at) (track y n).second (track y n).first

  ends_are : (((track y n).first ≡ at) × (onward ≡ (track y n).second)) ⊎ (((track y n).second ≡ at) × (onward ≡ (track y n).first))
  ends_are =
      ⊎_elim
      (λ e. inl (e, ap (λ b. cond b (track y n).second (track y n).first) (eq-eqb _ at e)))
      (λ e. inr (e, ap (λ b. cond b (track y n).second (track y n).first) (ne_eqb _ at (λ f. two_ends y n forest (f ∙ sym e)))))
      alone.touches

  pub onward_low : onward < 512
  onward_low =
      ⊎_elim
      (λ w. subst (λ (p : ℕ). p < 512) (sym w.1) (end_low y Second n step_there points))
      (λ w. subst (λ (p : ℕ). p < 512) (sym w.1) (end_low y First n step_there points))
      ends_are

  -- it has no other ends
  no_end : (p : ℕ) → p ≢ at → p ≢ onward → ¬ Touches y n p
  no_end p off past h = ⊎_elim (λ w. ⊎_elim (λ e. off (sym e ∙ w.0)) (λ e. past (sym e ∙ sym w.1)) h) (λ w. ⊎_elim (λ e. past (sym e ∙ sym w.1)) (λ e. off (sym e ∙ w.0)) h) ends_are

  gone : flagged (set s.left n false) n ≡ false
  gone = get_or-set_same s.left n false false in_left

  kept : (t : ℕ) → t ≢ n → flagged (set s.left n false) t ≡ flagged s.left t
  kept t ne = get_or-set_other s.left n t false false ne

  -- what is left after it is another track, and was left before
  still : (t : ℕ) → flagged (set s.left n false) t ≡ true → (t ≢ n) × (flagged s.left t ≡ true)
  still t f = let ne : t ≢ n = λ e. true≢false (sym f ∙ ap (flagged (set s.left n false)) e ∙ gone) in (ne, sym (kept t ne) ∙ f)

  module _ (left' : List Bool) (off : left' ≡ set s.left n false) where
    pub step_done : (p : ℕ) → p ≢ onward → (p ≢ at → NoneAlone y s.left p) → NoneAlone y left' p
    step_done p past quiet t a' =
        let a = subst (λ l. Alone y l p t) off a' in
        let w = still t a.flag in
        ⊎_elim
        (λ e. w.0 (alone.only t w.1 (subst (Touches y t) e a.touches)))
        (λ ne. quiet ne t (record {
          flag = w.1;
          touches = a.touches;
          only = λ u f h. a.only u (kept u (λ e. no_end p ne past (subst (λ (v : ℕ). Touches y v p) e h)) ∙ f) h;
        }))
        (cases_eq p at)

    pub step_known : {K : Type 0} (G : Group K) (L ks ks' : List K) → length ks ≡ length y → ks' ≡ set ks n (owed G y ks n at) → Balanced G y L → Known G L ks s.left → Known G L ks' left'
    step_known G L ks ks' long is b k =
        let value : owed G y ks n at ≡ label G L n =
        owed_is G y L ks b long n at forest.0 (two_ends y n forest) (k.zero_left n alone.flag)
        (λ u ne h. ⊎_elim (λ f. absurd (ne (alone.only u f h))) (λ f. k.settled u f) (cases_Bool (flagged s.left u)))
        alone.touches in
        subst (Known G L ks') (sym off) (record {
          zero_left = λ t f. let w = still t f in ap (λ l. label G l t) is ∙ get_or-set_other ks n t _ G.zero w.0 ∙ k.zero_left t w.1;
          settled = λ t f. ⊎_elim
              (λ e. ap (λ l. label G l t) is ∙ ap (label G (set ks n (owed G y ks n at))) e ∙ get_or-set_same ks n _ G.zero (omega (arith, step_there)) ∙ value ∙ ap (label G L) (sym e))
              (λ ne. ap (λ l. label G l t) is ∙ get_or-set_other ks n t _ G.zero ne ∙ k.settled t (sym (kept t ne) ∙ f))
              (cases_eq t n);
        })
