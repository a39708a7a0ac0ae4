-- A label sent along a track and back by other tracks. Assumes nothing.
use Rattle.std.proofs.Common.{◌≡◌, ℕ, Bool, true, false, eqb, ◌≢◌, List, [], ◌∷◌, length, sym, refl, ap, ◌∙◌, ap₂, inl, ⊎_elim, arith}
use Rattle.std.proofs.lemmas.Bool.{true≢false}
use Rattle.std.proofs.lemmas.Bool.Decides.{nat_tests}
use Rattle.network.specs.declared.track.Track.{Track}
use Rattle.graph.specs.Yards.{Joined, Open, track, only, closed, Around, Bridge, CutPair}
use Rattle.label.specs.Groups.{Group}
use Rattle.circulation.proofs.Steady.{Steady}
use Rattle.circulation.specs.Labels.{label, total}
use Rattle.graph.proofs.Joins.{turn}
use Rattle.graph.proofs.Decide.{joined_or}
use Rattle.graph.proofs.Cuts.{but, not_around_bridge, not_around_parts}
use Rattle.graph.proofs.Subyards.{open_only}
use Rattle.graph.proofs.Fronts.{open_within}
use Rattle.circulation.proofs.Totals.{cancel}
use Rattle.graph.proofs.Subyards.{length_only}
use Rattle.circulation.proofs.Unique.{total_only}
use Rattle.circulation.proofs.Flows.{listed, length_listed, label_listed, label_zero, bump, bump_same, bump_other, amount, out, into, Carries, carries_on, carries_step, flow, flow_carries, flow_shut}

module _ {K : Type 0} (G : Group K) where
  abbrev pub Even : List Track → (ℕ → K) → Type 0
  Even y f = (p : ℕ) → out G y p f ≡ into G y p f

  pub even_balanced : (y : List Track) (f : ℕ → K) → Even y f → ((t : ℕ) → (track y t).shut ≡ true → f t ≡ G.zero) → Steady G y (listed G (length y) f)
  even_balanced y f e z = record { one_each = length_listed G (length y) f; shut_zero = λ t s. label_zero G (length y) f t (z t s); at_point = e }

  carries_only : (keep : ℕ → Bool) (y : List Track) (f : ℕ → K) (k : K) (a b : ℕ) → Carries G (only keep y) f k a b → Carries G y f k a b
  carries_only keep y f k a b h p = ap₂ G.sum (sym (same (λ x. eqb x.first p) (λ _. refl))) refl ∙ h p ∙ ap₂ G.sum (same (λ x. eqb x.second p) (λ _. refl)) refl
    where
      same : (pick : Track → Bool) → ((x : Track) → pick (closed x) ≡ pick x) → amount G (only keep y) pick f ≡ amount G y pick f
      same pick e = ap (λ n. total G pick (only keep y) (listed G n f)) (length_only keep y) ∙ total_only G keep pick e y (listed G (length y) f)

  cancel_right : (a b s : K) → G.sum a s ≡ G.sum b s → a ≡ b
  cancel_right a b s e = cancel G s a b (G.comm s a ∙ e ∙ G.comm b s)

  -- k on the track t, and back by tracks that are kept
  module _ (keep : ℕ → Bool) (y : List Track) (t : ℕ) (j : Joined (only keep y) (track y t).second (track y t).first) (k : K) where
    abbrev pub round : ℕ → K
    round u = G.sum (flow G j k u) (bump G t k u)

    pub round_even : Open y t → Even y round
    round_even o p =
        cancel_right _ _ _
        (carries_on G y (flow G j k) (bump G t k) k _ _ _
        (carries_only keep y (flow G j k) k _ _ (flow_carries G j k))
        (carries_step G y t k (track y t).first (track y t).second (open_within y t o) (inl (refl, refl))) p)

    pub round_zero : (u : ℕ) → ¬ Open (only keep y) u → u ≢ t → round u ≡ G.zero
    round_zero u n d = ap₂ G.sum (flow_shut G j k u n) (bump_other G t k u d) ∙ G.unit _

    pub round_at : ¬ Open (only keep y) t → round t ≡ k
    round_at n = ap₂ G.sum (flow_shut G j k t n) (bump_same G t k) ∙ G.unit _

  -- what goes round through t and not through ts
  pub told : (y : List Track) (ts : List ℕ) (t : ℕ) (k : K) → Open y t → but (t ∷ ts) t ≡ false → Around y (t ∷ ts) t → (ks : List K) × Steady G y ks × (label G ks t ≡ k) × ((u : ℕ) → but (t ∷ ts) u ≡ false → u ≢ t → label G ks u ≡ G.zero)
  told y ts t k o out-t a =
      let f : ℕ → K = round (but (t ∷ ts)) y t (turn a) k in
      let shut : (u : ℕ) → but (t ∷ ts) u ≡ false → ¬ Open (only (but (t ∷ ts)) y) u = λ u e p. true≢false (sym (open_only (but (t ∷ ts)) y u p).0 ∙ e) in (
        listed G (length y) f,
        even_balanced y f (round_even (but (t ∷ ts)) y t (turn a) k o) (λ u s. round_zero (but (t ∷ ts)) y t (turn a) k u (λ p. true≢false (sym s ∙ (open_only (but (t ∷ ts)) y u p).1)) (λ e. true≢false (sym (rw e at s) ∙ o))),
        label_listed G (length y) f t (open_within y t o) ∙ round_at (but (t ∷ ts)) y t (turn a) k (shut t out-t),
        λ u e d. label_zero G (length y) f u (round_zero (but (t ∷ ts)) y t (turn a) k u (shut u e) d),
      )

  pub told_bridge : (y : List Track) (t : ℕ) → Open y t → ¬ Bridge y t → (k : K) → (ks : List K) × Steady G y ks × (label G ks t ≡ k)
  told_bridge y t o n k =
      let a : Around y (t ∷ []) t = ⊎_elim (λ j. j) (λ m. absurd (n (not_around_bridge y t o m))) (joined_or (only (but (t ∷ [])) y) _ _) in
      let r = told y [] t k o (grind (arith, nat_tests)) a in
      (r.0, r.1, r.2)

  pub told_apart : (y : List Track) (t u : ℕ) → t ≢ u → Open y t → Open y u → ¬ Bridge y t → ¬ Bridge y u → ¬ CutPair y t u → (k : K) → (ks : List K) × Steady G y ks × (label G ks t ≡ k) × (label G ks u ≡ G.zero)
  told_apart y t u d o p n m not-pair k =
      let a : Around y (t ∷ u ∷ []) t = ⊎_elim (λ j. j) (λ i. absurd (not-pair (record { different = d; open_first = o; open_second = p; not_bridge_first = n; not_bridge_second = m; parting = not_around_parts y t u o i }))) (joined_or (only (but (t ∷ u ∷ [])) y) _ _) in
      let r = told y (u ∷ []) t k o (grind (arith, nat_tests)) a in
      (r.0, r.1, r.2, r.3 u (grind (arith, nat_tests)) (λ e. d (sym e)))
