-- Bridges and cut pairs by whether the ends of a track stay joined. Assumes nothing.
use Rattle.std.proofs.Common.{ℕ, Bool, true, not, ◌≢◌, ◌↔◌, List, [], ◌∷◌, sym, refl, ⊎_elim, arith}
use Rattle.std.proofs.lemmas.Bool.Decides.{nat_tests}
use Rattle.network.specs.declared.track.Track.{Track}
use Rattle.graph.specs.Yards.{Joined, Open, track, among, shut_also, Parts, Around, Bridge, CutPair}
use Rattle.graph.proofs.Joins.{link, one_more_back, Bridged, across}
use Rattle.graph.proofs.Decide.{joined_or}
use Rattle.graph.proofs.Subyards.{only_within, all_only, only_more, only_one_more, exchange, bypass}

-- the open tracks but ts
abbrev pub but : List ℕ → ℕ → Bool
but ts t = not (among t ts)

module _ (y : List Track) where
  pub one_track_more : (t : ℕ) → Open y t → (a b : ℕ) → Joined y a b ↔ Bridged (shut_also y (t ∷ [])) (track y t).first (track y t).second a b
  one_track_more t o a b = (
    λ j. only_one_more (but (t ∷ [])) (λ _. true) y t (λ u _. grind (arith, nat_tests)) (all_only (λ _. true) y (λ _ _. refl) j),
    λ h. one_more_back (λ c d l. only_within (but (t ∷ [])) y (link l)) (across y t o) h,
  )

  -- a track that is no bridge can be shut with nothing parted
  pub spared : (t : ℕ) → Open y t → ¬ Bridge y t → {a b : ℕ} → Joined y a b → Joined (shut_also y (t ∷ [])) a b
  spared t o n {a} {b} j = ⊎_elim (λ k. k) (λ m. absurd (n (o, (a, b, j, m)))) (joined_or (shut_also y (t ∷ [])) a b)

  pub bridge_not_around : (t : ℕ) → Bridge y t → ¬ Around y (t ∷ []) t
  bridge_not_around t (o, (a, b, j, n)) s = n (bypass (but (t ∷ [])) (λ _. true) y t (λ u _. grind (arith, nat_tests)) s (all_only (λ _. true) y (λ _ _. refl) j))

  pub not_around_bridge : (t : ℕ) → Open y t → ¬ Around y (t ∷ []) t → Bridge y t
  not_around_bridge t o n = (o, (_, _, across y t o, n))

  pub parts_not_around : (t u : ℕ) → Open y u → ¬ Bridge y u → Parts y (t ∷ u ∷ []) → ¬ Around y (t ∷ u ∷ []) t
  parts_not_around t u o d (a, b, j, n) s = n (bypass (but (t ∷ u ∷ [])) (but (u ∷ [])) y t (λ w h. grind (arith, nat_tests)) s (spared u o d j))

  pub not_around_parts : (t u : ℕ) → Open y t → ¬ Around y (t ∷ u ∷ []) t → Parts y (t ∷ u ∷ [])
  not_around_parts t u o n = (_, _, across y t o, n)

  pub parts_swap : (t u : ℕ) → Parts y (t ∷ u ∷ []) → Parts y (u ∷ t ∷ [])
  parts_swap t u (a, b, j, n) = (a, b, j, λ k. n (only_more (but (u ∷ t ∷ [])) (but (t ∷ u ∷ [])) y (λ w h. grind (arith, nat_tests)) k))

  pub pair_sym : (t u : ℕ) → CutPair y t u → CutPair y u t
  pair_sym t u m = record {
    different = λ e. m.different (sym e);
    open_first = m.open_second;
    open_second = m.open_first;
    not_bridge_first = m.not_bridge_second;
    not_bridge_second = m.not_bridge_first;
    parting = parts_swap t u m.parting;
  }

  pub pair_not_around : (t u : ℕ) → CutPair y t u → ¬ Around y (t ∷ u ∷ []) t
  pair_not_around t u m = parts_not_around t u m.open_second m.not_bridge_second m.parting

  pub pair_trans : (e f g : ℕ) → CutPair y e f → CutPair y f g → e ≢ g → CutPair y e g
  pair_trans e f g m k d = record {
    different = d;
    open_first = m.open_first;
    open_second = k.open_second;
    not_bridge_first = m.not_bridge_first;
    not_bridge_second = k.not_bridge_second;
    parting = not_around_parts e g m.open_first not_around;
  }
    where
      not_around : ¬ Around y (e ∷ g ∷ []) e
      not_around s =
          let ne = m.different in
          pair_not_around f g k
          (exchange (but (e ∷ f ∷ g ∷ [])) (but (e ∷ g ∷ [])) (but (f ∷ g ∷ [])) y e f m.open_first
          (λ w h. grind (arith, nat_tests)) (λ w h. grind (arith, nat_tests)) (grind (arith, nat_tests))
          (λ j. pair_not_around e f m (only_more (but (e ∷ f ∷ g ∷ [])) (but (e ∷ f ∷ [])) y (λ w h. grind (arith, nat_tests)) j)) s)
