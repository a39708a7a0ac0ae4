-- Tests that compute: open, bridge, cut pair, parting, forest. Assumes nothing.
use Rattle.std.proofs.Common.{ℕ, Bool, not, ◌&&◌, eqb, ◌≢◌, ◌⊎◌, List, [], ◌∷◌, take, Decides, inl, inr, ⊎_elim}
use Rattle.std.proofs.lemmas.Bool.Decides.{Decides-and, Decides-not, Decides-eqb, Decides-like, not_from_Decides}
use Rattle.std.proofs.lemmas.Bool.{not-true, not_from_false, cases_Bool}
use Rattle.network.specs.declared.track.Track.{Track}
use Rattle.graph.specs.Yards.{Open, track, shut_also, Around, Bridge, CutPair}
use Rattle.graph.specs.Forests.{InForest}
use Rattle.graph.proofs.Decide.{joined?, decides_joined}
use Rattle.graph.proofs.Cuts.{bridge_not_around, not_around_bridge, pair_not_around, not_around_parts}

abbrev pub open? : List Track → ℕ → Bool
open? y t = not (track y t).shut

pub decides_open : (y : List Track) (t : ℕ) → Decides (open? y t) (Open y t)
decides_open y t = (not-true _, not_from_false _)

abbrev pub in_forest? : List Track → ℕ → Bool
in_forest? y t = open? y t && not (joined? (take t y) (track y t).first (track y t).second)

pub decides_forest : (y : List Track) (t : ℕ) → Decides (in_forest? y t) (InForest y t)
decides_forest y t = Decides-and _ _ (decides_open y t) (Decides-not _ (decides_joined (take t y) (track y t).first (track y t).second))

abbrev pub around? : List Track → List ℕ → ℕ → Bool
around? y ts t = joined? (shut_also y ts) (track y t).first (track y t).second

abbrev pub bridge? : List Track → ℕ → Bool
bridge? y t = open? y t && not (around? y (t ∷ []) t)

abbrev pub pair? : List Track → ℕ → ℕ → Bool
pair? y t u = not (eqb t u) && (open? y t && (open? y u && (not (bridge? y t) && (not (bridge? y u) && not (around? y (t ∷ u ∷ []) t)))))

module _ (y : List Track) where
  pub decides_not_around : (ts : List ℕ) (t : ℕ) → Decides (not (around? y ts t)) (¬ Around y ts t)
  decides_not_around ts t = Decides-not _ (decides_joined (shut_also y ts) (track y t).first (track y t).second)

  pub decides_bridge : (t : ℕ) → Decides (bridge? y t) (Bridge y t)
  decides_bridge t = Decides-like _ (λ h. not_around_bridge y t h.0 h.1) (λ s. (s.0, bridge_not_around y t s)) (Decides-and _ _ (decides_open y t) (decides_not_around (t ∷ []) t))

  abbrev PartsOfPair : ℕ → ℕ → Type 0
  PartsOfPair t u = (t ≢ u) × (Open y t × (Open y u × ((¬ Bridge y t) × ((¬ Bridge y u) × (¬ Around y (t ∷ u ∷ []) t)))))

  pair_made : (t u : ℕ) → PartsOfPair t u → CutPair y t u
  pair_made t u (d, (o, (p, (s, (r, a))))) = record { different = d; open_first = o; open_second = p; not_bridge_first = s; not_bridge_second = r; parting = not_around_parts y t u o a }

  pair_parts : (t u : ℕ) → CutPair y t u → PartsOfPair t u
  pair_parts t u m = (m.different, (m.open_first, (m.open_second, (m.not_bridge_first, (m.not_bridge_second, pair_not_around y t u m)))))

  pub decides_pair : (t u : ℕ) → Decides (pair? y t u) (CutPair y t u)
  decides_pair t u =
      Decides-like _ (pair_made t u) (pair_parts t u)
      (Decides-and _ _ (Decides-not _ (Decides-eqb t u))
      (Decides-and _ _ (decides_open y t)
      (Decides-and _ _ (decides_open y u)
      (Decides-and _ _ (Decides-not _ (decides_bridge t))
      (Decides-and _ _ (Decides-not _ (decides_bridge u))
      (decides_not_around (t ∷ u ∷ []) t))))))

  -- each track is a bridge or not, and so are two a cut pair
  pub bridge_or : (t : ℕ) → Bridge y t ⊎ (¬ Bridge y t)
  bridge_or t = ⊎_elim (λ e. inl ((decides_bridge t).0 e)) (λ e. inr (not_from_Decides _ (decides_bridge t) e)) (cases_Bool (bridge? y t))

  pub pair_or : (t u : ℕ) → CutPair y t u ⊎ (¬ CutPair y t u)
  pair_or t u = ⊎_elim (λ e. inl ((decides_pair t u).0 e)) (λ e. inr (not_from_Decides _ (decides_pair t u) e)) (cases_Bool (pair? y t u))
