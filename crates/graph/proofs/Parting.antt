-- Two tracks part the yard where an open one of them has its ends parted; and a cut pair by the ends of one. Assumes nothing.
use Rattle.std.proofs.Common.{◌≡◌, ℕ, zero, suc, Bool, true, not, ◌&&◌, ◌||◌, ◌≢◌, ◌⊎◌, ◌↔◌, List, [], ◌∷◌, length, take, Decides, sym, ◌∙◌, inl, inr, ⊎_elim, arith, take_all}
use Rattle.std.proofs.lemmas.Bool.{true≢false, cases_Bool, cases_eq}
use Rattle.std.proofs.lemmas.Bool.Decides.{nat_tests, Decides-and, Decides-or, Decides-like}
use Rattle.network.specs.declared.track.Track.{Track}
use Rattle.graph.specs.Yards.{Joined, here, Ends, Open, track, only, shut_also, Parts, Around, Bridge, CutPair}
use Rattle.graph.specs.Forests.{InForest}
use Rattle.graph.proofs.Joins.{link, more, turn, across}
use Rattle.graph.proofs.Subyards.{only_link, exchange}
use Rattle.graph.proofs.Decide.{joined_or, from_nothing}
use Rattle.graph.proofs.Fronts.{take_more}
use Rattle.graph.proofs.Cuts.{but, bridge_not_around, not_around_bridge, pair_not_around, not_around_parts}
use Rattle.graph.proofs.Tests.{open?, around?, decides_open, decides_not_around}

pub ends_joined : {z : List Track} {a b : ℕ} (x : Track) → Ends x a b → Joined z x.first x.second → Joined z a b
ends_joined {z} x (inl e) j = rw (e.0, e.1) at j
ends_joined {z} x (inr e) j = turn (rw (e.0, e.1) at j)

module _ (y : List Track) where
  -- one of the two is open, and its ends are not joined without both
  abbrev pub PartsAt : ℕ → ℕ → Type 0
  PartsAt t u = (Open y t × ¬ Around y (t ∷ u ∷ []) t) ⊎ (Open y u × ¬ Around y (t ∷ u ∷ []) u)

  abbrev Stays : ℕ → ℕ → ℕ → Type 0
  Stays t u v = (Open y v × ¬ Around y (t ∷ u ∷ []) v) ⊎ (Open y v → Around y (t ∷ u ∷ []) v)

  stays : (t u v : ℕ) → Stays t u v
  stays t u v =
      ⊎_elim
      (λ s. inr (λ o. absurd (true≢false (sym s ∙ o))))
      (λ o. ⊎_elim (λ j. inr (λ _. j)) (λ n. inl (o, n)) (joined_or (shut_also y (t ∷ u ∷ [])) _ _))
      (cases_Bool (track y v).shut)

  -- where the ends of both stay joined, so does all
  all_stay : (t u : ℕ) → (Open y t → Around y (t ∷ u ∷ []) t) → (Open y u → Around y (t ∷ u ∷ []) u) → {a b : ℕ} → Joined y a b → Joined (shut_also y (t ∷ u ∷ [])) a b
  all_stay t u f g = more (λ c d l.
      ⊎_elim
      (λ e. ends_joined (track y l.number) l.ends (rw e (f (rw e at l.is_open))))
      (λ ne.
      ⊎_elim
      (λ e. ends_joined (track y l.number) l.ends (rw e (g (rw e at l.is_open))))
      (λ me. only_link (but (t ∷ u ∷ [])) y (record { number = l.number; kept = grind (arith, nat_tests); is_open = l.is_open; ends = l.ends }))
      (cases_eq l.number u))
      (cases_eq l.number t))

  pub parts_at : (t u : ℕ) → Parts y (t ∷ u ∷ []) → PartsAt t u
  parts_at t u (a, b, j, n) = go (stays t u t) (stays t u u)
    where
      go : Stays t u t → Stays t u u → PartsAt t u
      go (inl h) k = inl h
      go (inr f) (inl k) = inr k
      go (inr f) (inr g) = absurd (n (all_stay t u f g j))

  pub at_parts : (t u : ℕ) → PartsAt t u → Parts y (t ∷ u ∷ [])
  at_parts t u (inl h) = (_, _, across y t h.0, h.1)
  at_parts t u (inr h) = (_, _, across y u h.0, h.1)

  abbrev pub parts? : ℕ → ℕ → Bool
  parts? t u = (open? y t && not (around? y (t ∷ u ∷ []) t)) || (open? y u && not (around? y (t ∷ u ∷ []) u))

  pub decides_parts : (t u : ℕ) → Decides (parts? t u) (Parts y (t ∷ u ∷ []))
  decides_parts t u =
      Decides-like _ (at_parts t u) (parts_at t u)
      (Decides-or _ _
      (Decides-and _ _ (decides_open y t) (decides_not_around y (t ∷ u ∷ []) t))
      (Decides-and _ _ (decides_open y u) (decides_not_around y (t ∷ u ∷ []) u)))

  -- the ends of t, which is no bridge, are joined through u alone: then u is no bridge either
  other_no_bridge : (t u : ℕ) → Open y t → ¬ Bridge y t → t ≢ u → ¬ Around y (t ∷ u ∷ []) t → Around y (u ∷ []) u
  other_no_bridge t u o n d m =
      let a : Around y (t ∷ []) t = ⊎_elim (λ j. j) (λ k. absurd (n (not_around_bridge y t o k))) (joined_or (only (but (t ∷ [])) y) _ _) in
      exchange (but (t ∷ u ∷ [])) (but (t ∷ [])) (but (u ∷ [])) y t u o (λ w h. grind (arith, nat_tests)) (λ w h. grind (arith, nat_tests)) (grind (arith, nat_tests)) m a

  pub pair_by_ends : (t u : ℕ) → t ≢ u → Open y t → Open y u → ¬ Bridge y t → CutPair y t u ↔ (¬ Around y (t ∷ u ∷ []) t)
  pair_by_ends t u d o p n = (
    pair_not_around y t u,
    λ m. record {
      different = d;
      open_first = o;
      open_second = p;
      not_bridge_first = n;
      not_bridge_second = λ b. bridge_not_around' b (other_no_bridge t u o n d m);
      parting = not_around_parts y t u o m;
    },
  )
    where
      bridge_not_around' : Bridge y u → ¬ Around y (u ∷ []) u
      bridge_not_around' = bridge_not_around y u

  -- a part of the yard that keeps the forest joins what the yard does
  module _ (keep : ℕ → Bool) (forest : (t : ℕ) → InForest y t → keep t ≡ true) where
    pub spans_front : (n : ℕ) {a b : ℕ} → Joined (take n y) a b → Joined (only keep y) a b
    spans_front zero {a} {b} j = rw (sym (from_nothing a b j)) here
    spans_front (suc n) j = more (λ c d l.
        ⊎_elim
        (λ k. spans_front n (link k))
        (λ h. ⊎_elim
        (λ k. ends_joined (track y n) h.1 (spans_front n k))
        (λ m. only_link keep y (record { number = n; kept = forest n (h.0, m); is_open = h.0; ends = h.1 }))
        (joined_or (take n y) (track y n).first (track y n).second))
        (take_more n y c d l)) j

    pub spans : {a b : ℕ} → Joined y a b → Joined (only keep y) a b
    spans j = spans_front (length y) (rw (take_all (length y) y (omega arith)) j)
