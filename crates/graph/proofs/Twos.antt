-- Two tracks part the yard together exactly if one is a bridge or they are a cut pair. Assumes nothing.
use Rattle.std.proofs.Common.{◌≡◌, ℕ, true, ◌≢◌, ◌⊎◌, List, [], ◌∷◌, sym, ◌∙◌, subst, inl, inr, ⊎_elim, arith}
use Rattle.std.proofs.lemmas.Bool.{cases_Bool, cases_eq, true≢false}
use Rattle.std.proofs.lemmas.Bool.Decides.{nat_tests}
use Rattle.network.specs.declared.track.Track.{Track}
use Rattle.graph.specs.Yards.{track, Open, Parts, Around, Bridge, CutPair}
use Rattle.graph.proofs.Cuts.{but, bridge_not_around, not_around_bridge, not_around_parts, parts_swap, pair_sym}
use Rattle.graph.proofs.Parting.{parts_at, at_parts}
use Rattle.graph.proofs.Subyards.{only_more, only_more_open}
use Rattle.graph.proofs.Tests.{bridge_or}

module _ (y : List Track) where
  -- a track that no other helps to part, being the same or shut, is a bridge
  alone : (t u : ℕ) → Open y t → ¬ Around y (t ∷ u ∷ []) t → (u ≡ t) ⊎ ((track y u).shut ≡ true) → Bridge y t
  alone t u o n (inl e) = not_around_bridge y t o (λ j. n (only_more (but (t ∷ [])) (but (t ∷ u ∷ [])) y (λ w h. grind (arith, nat_tests)) j))
  alone t u o n (inr s) =
      not_around_bridge y t o (λ j. n (only_more_open (but (t ∷ [])) (but (t ∷ u ∷ [])) y (λ w p h. let ne : w ≢ u = λ e. true≢false (sym s ∙ subst (λ (k : ℕ). Open y k) e p) in grind (arith, nat_tests)) j))

  pair_from : (t u : ℕ) → ¬ Bridge y t → ¬ Bridge y u → Open y t → ¬ Around y (t ∷ u ∷ []) t → CutPair y t u
  pair_from t u n m o not_around =
      ⊎_elim
      (λ same. absurd (n (alone t u o not_around (inl (sym same)))))
      (λ ne. ⊎_elim
      (λ s. absurd (n (alone t u o not_around (inr s))))
      (λ p. record { different = ne; open_first = o; open_second = p; not_bridge_first = n; not_bridge_second = m; parting = not_around_parts y t u o not_around })
      (cases_Bool (track y u).shut))
      (cases_eq t u)

  turned : (t u : ℕ) → ¬ Around y (t ∷ u ∷ []) u → ¬ Around y (u ∷ t ∷ []) u
  turned t u n j = n (only_more (but (u ∷ t ∷ [])) (but (t ∷ u ∷ [])) y (λ w h. grind (arith, nat_tests)) j)

  pub parts_are : (t u : ℕ) → Parts y (t ∷ u ∷ []) → Bridge y t ⊎ (Bridge y u ⊎ CutPair y t u)
  parts_are t u p =
      ⊎_elim
      (λ b. inl b)
      (λ n. ⊎_elim
      (λ b. inr (inl b))
      (λ m. inr (inr (⊎_elim (λ h. pair_from t u n m h.0 h.1) (λ h. pair_sym y u t (pair_from u t m n h.0 (turned t u h.1))) (parts_at y t u p))))
      (bridge_or y u))
      (bridge_or y t)

  bridge_parts : (t u : ℕ) → Bridge y t → Parts y (t ∷ u ∷ [])
  bridge_parts t u b = at_parts y t u (inl (b.0, λ j. bridge_not_around y t b (only_more (but (t ∷ u ∷ [])) (but (t ∷ [])) y (λ w h. grind (arith, nat_tests)) j)))

  pub are_parts : (t u : ℕ) → Bridge y t ⊎ (Bridge y u ⊎ CutPair y t u) → Parts y (t ∷ u ∷ [])
  are_parts t u (inl b) = bridge_parts t u b
  are_parts t u (inr (inl b)) = parts_swap y u t (bridge_parts u t b)
  are_parts t u (inr (inr c)) = c.parting
