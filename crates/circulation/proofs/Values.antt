-- Sums of labels that agree, and the label of one track from those of the others at a point. Assumes nothing.
use Rattle.std.proofs.Common.{◌≡◌, ℕ, suc, Bool, true, false, cond, ◌≢◌, List, [], ◌∷◌, length, set, sym, refl, ap, ◌∙◌, ap₂, inl, inr, ⊎_elim, arith, length-set}
use Rattle.std.proofs.lemmas.Bool.{cases_eq, and_parts, eqb-true, eq-eqb, ne_eqb}
use Rattle.network.specs.declared.track.Track.{Track}
use Rattle.graph.specs.Yards.{Open, track}
use Rattle.graph.specs.Forests.{Touches}
use Rattle.graph.proofs.Fronts.{open_within}
use Rattle.label.specs.Groups.{Group}
use Rattle.circulation.specs.Labels.{label, total, leaves_from, enters_at, Balanced}
use Rattle.circulation.specs.Labellings.{owed}
use Rattle.circulation.proofs.Totals.{unit_right}
use Rattle.circulation.proofs.Carried.{set_same, set_other, adds, total_out}

module _ {K : Type 0} (G : Group K) where
  cond_agree : (b : Bool) (k m : K) → (b ≡ true → k ≡ m) → cond b k G.zero ≡ cond b m G.zero
  cond_agree true k m h = h refl
  cond_agree false k m h = refl

  -- labels that agree on the tracks that are picked have one sum there
  pub total_agree : (pick : Track → Bool) (y : List Track) (ks ms : List K) → length ks ≡ length ms → ((t : ℕ) → pick (track y t) ≡ true → label G ks t ≡ label G ms t) → total G pick y ks ≡ total G pick y ms
  total_agree pick [] ks ms e h = refl
  total_agree pick (x ∷ y) [] [] e h = refl
  total_agree pick (x ∷ y) [] (m ∷ ms) e h = absurd (omega arith)
  total_agree pick (x ∷ y) (k ∷ ks) [] e h = absurd (omega arith)
  total_agree pick (x ∷ y) (k ∷ ks) (m ∷ ms) e h = ap₂ G.sum (cond_agree (pick x) k m (h 0)) (total_agree pick y ks ms (omega arith) (λ t. h (suc t)))

  take_away : (a b c : K) → G.sum a b ≡ c → G.sum c (G.opposite b) ≡ a
  take_away a b c e = ap (λ s. G.sum s (G.opposite b)) (sym e) ∙ G.assoc a b _ ∙ ap (G.sum a) (G.comm b _ ∙ G.inverse b) ∙ unit_right G a

  -- the labels L balance, and ks has those of all tracks at the point c but t, which is open, has its two ends apart and carries zero in ks
  module _ (y : List Track) (L ks : List K) (b : Balanced G y L) (long : length ks ≡ length y) (t c : ℕ) (o : Open y t) (apart : (track y t).first ≢ (track y t).second) (none : label G ks t ≡ G.zero) (others : (u : ℕ) → u ≢ t → Touches y u c → label G ks u ≡ label G L u) where
    without : (pick : Track → Bool) → ((u : ℕ) → pick (track y u) ≡ true → Touches y u c) → total G pick y L ≡ G.sum (adds G pick y L t) (total G pick y ks)
    without pick at =
        total_out G pick y L t (open_within y t o) b.one_each
        ∙ ap (G.sum _)
        (total_agree pick y (set L t G.zero) ks (length-set L t G.zero ∙ b.one_each ∙ sym long) (λ u p.
        ⊎_elim
        (λ e. ap (label G (set L t G.zero)) e ∙ set_same G L t ∙ sym none ∙ ap (label G ks) (sym e))
        (λ ne. set_other G L t u ne ∙ sym (others u ne (at u p)))
        (cases_eq u t)))

    leaving : total G (leaves_from c) y L ≡ G.sum (adds G (leaves_from c) y L t) (total G (leaves_from c) y ks)
    leaving = without (leaves_from c) (λ u p. inl (eqb-true _ c (and_parts _ _ p).1))

    entering : total G (enters_at c) y L ≡ G.sum (adds G (enters_at c) y L t) (total G (enters_at c) y ks)
    entering = without (enters_at c) (λ u p. inr (eqb-true _ c (and_parts _ _ p).1))

    pub owed_is : Touches y t c → owed G y ks t c ≡ label G L t
    owed_is (inl e) =
        let out : adds G (leaves_from c) y L t ≡ label G L t = rw (o, eq-eqb _ c e) in
        let into : adds G (enters_at c) y L t ≡ G.zero = rw (o, ne_eqb _ c (λ f. apart (e ∙ sym f))) in
        rw (eq-eqb _ c e)
        (take_away _ _ _
        (ap (λ k. G.sum k (total G (leaves_from c) y ks)) (sym out) ∙ sym leaving ∙ b.at_point c ∙ entering ∙ ap (λ k. G.sum k (total G (enters_at c) y ks)) into ∙ G.unit _))
    owed_is (inr e) =
        let into : adds G (enters_at c) y L t ≡ label G L t = rw (o, eq-eqb _ c e) in
        let out : adds G (leaves_from c) y L t ≡ G.zero = rw (o, ne_eqb _ c (λ f. apart (f ∙ sym e))) in
        rw (ne_eqb (track y t).first c (λ f. apart (f ∙ sym e)))
        (take_away _ _ _
        (ap (λ k. G.sum k (total G (enters_at c) y ks)) (sym into) ∙ sym entering ∙ sym (b.at_point c) ∙ leaving ∙ ap (λ k. G.sum k (total G (leaves_from c) y ks)) out ∙ G.unit _))
