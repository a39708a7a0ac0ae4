-- What representatives tell: whether points are joined, and what the tracks that are shut as well part. Assumes nothing.
use Rattle.std.proofs.Common.{◌≡◌, ℕ, ◌<◌, ◌≤◌, true, false, ◌||◌, eqb, ◌≢◌, ◌⊎◌, List, [], ◌∷◌, length, get_or, Decides, sym, refl, subst, inl, inr, ⊎_elim, arith}
use Rattle.std.proofs.lemmas.Bool.Decides.{nat_tests, Decides-and, Decides-or, Decides-not, Decides-eqb, Decides-like}
use Rattle.network.specs.Tracks.{Within, Points, are_points}
use Rattle.network.specs.declared.track.Track.{Track}
use Rattle.graph.specs.Yards.{Joined, here, along, Link, Ends, Open, track, shut_also, Parts, Bridge}
use Rattle.graph.specs.Classes.{Fellow}
use Rattle.graph.specs.Representing.{Represents}
use Rattle.graph.proofs.Fronts.{open_within}
use Rattle.graph.proofs.Subyards.{only_within, all_only}
use Rattle.graph.proofs.Cuts.{but, bridge_not_around, not_around_bridge}
use Rattle.graph.proofs.Parting.{parts_at, at_parts, pair_by_ends}
use Rattle.graph.proofs.Tests.{decides_open}
use Rattle.yard.specs.Partitions.{split}
use Rattle.yard.proofs.Records.{track_within}

ends_below : (x : Track) (a b : ℕ) → Within x → Ends x a b → (a < 512) × (b < 512)
ends_below x a b w (inl e) = (omega (arith, e.0, w.0), omega (arith, e.1, w.1))
ends_below x a b w (inr e) = (omega (arith, e.1, w.1), omega (arith, e.0, w.0))

module _ (y : List Track) (points : Points y) where
  link_below : (a b : ℕ) → Link y a b → (a < 512) × (b < 512)
  link_below a b l = ends_below (track y l.number) a b (track_within y l.number (open_within y l.number l.is_open) points) l.ends

  -- a point above 511 is joined to itself alone
  joined_below : (a b : ℕ) → Joined y a b → (a ≡ b) ⊎ ((a < 512) × (b < 512))
  joined_below a b here = inl refl
  joined_below a c (along {b = b} j l) =
      let low = link_below b c l in
      inr (⊎_elim (λ e. omega (arith, e, low.0)) (λ h. h.0) (joined_below a b j), low.1)

  pub decides_beyond : (a b : ℕ) → are_points a b ≡ false → Decides (eqb a b) (Joined y a b)
  decides_beyond a b outside =
      let far : (512 ≤ a) ⊎ (512 ≤ b) = grind (arith, nat_tests) in
      Decides-like _ (λ e. subst (Joined y a) e here) (λ j. ⊎_elim (λ e. e) (λ h. absurd (⊎_elim (λ f. omega (arith, f, h.0)) (λ f. omega (arith, f, h.1)) far)) (joined_below a b j)) (Decides-eqb a b)

  -- to shut no track as well leaves the yard as it is
  pub represents_all : (reps : List ℕ) → Represents reps (shut_also y []) → Represents reps y
  represents_all reps held a b p q = (λ e. only_within _ y ((held a b p q).0 e), λ j. (held a b p q).1 (all_only (but []) y (λ t o. refl) j))

  pub decides_within : (reps : List ℕ) (a b : ℕ) → Represents reps (shut_also y []) → are_points a b ≡ true → Decides (eqb (get_or reps a 0) (get_or reps b 0)) (Joined y a b)
  decides_within reps a b held inside =
      let p : a < 512 = grind (arith, nat_tests) in
      let q : b < 512 = grind (arith, nat_tests) in
      let same = represents_all reps held a b p q in
      Decides-like _ same.0 same.1 (Decides-eqb _ _)

  module _ (reps : List ℕ) (z : List Track) (held : Represents reps z) where
    pub decides_split : (v : ℕ) → v < length y → Decides (split reps (track y v)) (Open y v × ¬ Joined z (track y v).first (track y v).second)
    decides_split v h =
        let low = track_within y v h points in
        let same = held (track y v).first (track y v).second low.0 low.1 in
        Decides-and _ _ (decides_open y v) (Decides-not _ (Decides-like _ same.0 same.1 (Decides-eqb _ _)))

  pub decides_bridge_split : (reps : List ℕ) (t : ℕ) → t < length y → Represents reps (shut_also y (t ∷ [])) → Decides (split reps (track y t)) (Bridge y t)
  decides_bridge_split reps t h held =
      Decides-like _ (λ s. not_around_bridge y t s.0 s.1) (λ b. (b.0, bridge_not_around y t b)) (decides_split reps _ held t h)

  pub decides_parts_split : (reps : List ℕ) (t u : ℕ) (one other : Track) → t < length y → u < length y → one ≡ track y t → other ≡ track y u → Represents reps (shut_also y (t ∷ u ∷ [])) → Decides (split reps one || split reps other) (Parts y (t ∷ u ∷ []))
  decides_parts_split reps t u one other h k at also held =
      rw (at, also) (Decides-like _ (at_parts y t u) (parts_at y t u) (Decides-or _ _ (decides_split reps _ held t h) (decides_split reps _ held u k)))

  -- a partner in a cut pair, by the ends of a track that is no bridge
  pub decides_fellow : (reps : List ℕ) (t u : ℕ) → t < length y → t ≢ u → Open y t → Open y u → ¬ Bridge y t → Represents reps (shut_also y (t ∷ u ∷ [])) → Decides (split reps (track y t)) (Fellow y t u)
  decides_fellow reps t u h d o p n held =
      let pair = pair_by_ends y t u d o p n in
      Decides-like _
      (λ s. inr (pair.1 s.1))
      (λ f. (o, pair.0 (⊎_elim (λ e. absurd (d (sym e))) (λ q. q) f)))
      (decides_split reps _ held t h)
