-- What balanced labels carry on bridges and on cut pairs. Assumes nothing.
use Rattle.std.proofs.Common.{◌≡◌, ℕ, zero, suc, ◌<◌, Bool, true, false, cond, not, ◌&&◌, eqb, ◌≢◌, ◌⊎◌, List, [], ◌∷◌, length, set, Decides, sym, refl, ap, ◌∙◌, inl, inr, ⊎_elim, arith, length-set}
use Rattle.std.proofs.lemmas.Bool.Decides.{nat_tests, same_from_decides, Decides-like}
use Rattle.std.proofs.lemmas.Bool.{cases_Bool, true≢false, false≢true, or_cases, or_parts, eqb-true, eqb-false}
use Rattle.network.specs.declared.track.Track.{Track}
use Rattle.graph.specs.Yards.{Joined, here, Open, Bridge, CutPair, track, among, shut_also}
use Rattle.label.specs.Groups.{Group}
use Rattle.circulation.proofs.Steady.{Steady}
use Rattle.circulation.specs.Labels.{label, total, leaves, enters}
use Rattle.graph.proofs.Joins.{trans, turn, Bridged, across}
use Rattle.graph.proofs.Decide.{joined?, decides_joined}
use Rattle.graph.proofs.Subyards.{across_only, only_one_more}
use Rattle.graph.proofs.Fronts.{open_within}
use Rattle.graph.proofs.Cuts.{but, bridge_not_around, pair_not_around, spared}
use Rattle.circulation.proofs.Totals.{unit_right, left_comm, opposite_from, cut}

pub decided : {P : Type 0} (r : Bool) → Decides r P → ¬ P → r ≡ false
decided r d n = ⊎_elim (λ e. absurd (n (d.0 e))) (λ e. e) (cases_Bool r)

stays : (p q : Bool) → p ≡ q → ((p && not q) ≡ false) × ((q && not p) ≡ false)
stays p q e = rw e (go q, go q)
  where
    go : (c : Bool) → (c && not c) ≡ false
    go true = refl
    go false = refl

-- the points joined to a with the tracks ts shut: no other open track leads out or in
module _ (y : List Track) (ts : List ℕ) (a : ℕ) where
  abbrev pub side : ℕ → Bool
  side p = joined? (shut_also y ts) a p

  side_in : {p : ℕ} → Joined (shut_also y ts) a p → side p ≡ true
  side_in {p} = (decides_joined (shut_also y ts) a p).1

  side_out : {p : ℕ} → ¬ Joined (shut_also y ts) a p → side p ≡ false
  side_out {p} = decided (side p) (decides_joined (shut_also y ts) a p)

  side_kept : (w : ℕ) → Open y w → among w ts ≡ false → side (track y w).first ≡ side (track y w).second
  side_kept w o n =
      let j : Joined (shut_also y ts) (track y w).first (track y w).second = across_only (but ts) y w (rw n) o in
      same_from_decides _ _ (decides_joined (shut_also y ts) a _) (Decides-like _ (λ k. trans k (turn j)) (λ k. trans k j) (decides_joined (shut_also y ts) a _))

  side_leaves : (w : ℕ) → Open y w → among w ts ≡ false → leaves side (track y w) ≡ false
  side_leaves w o n = (stays _ _ (side_kept w o n)).0

  side_enters : (w : ℕ) → Open y w → among w ts ≡ false → enters side (track y w) ≡ false
  side_enters w o n = (stays _ _ (side_kept w o n)).1

module _ {K : Type 0} (G : Group K) where
  pub set_same : (ks : List K) (t : ℕ) → label G (set ks t G.zero) t ≡ G.zero
  set_same [] t = refl
  set_same (k ∷ ks) zero = refl
  set_same (k ∷ ks) (suc t) = set_same ks t

  pub set_other : (ks : List K) (t u : ℕ) → u ≢ t → label G (set ks t G.zero) u ≡ label G ks u
  set_other [] t u n = refl
  set_other (k ∷ ks) zero zero n = absurd (n refl)
  set_other (k ∷ ks) zero (suc u) n = refl
  set_other (k ∷ ks) (suc t) zero n = refl
  set_other (k ∷ ks) (suc t) (suc u) n = set_other ks t u (λ e. n (ap suc e))

  -- the labels with those of ts made zero
  abbrev muted : List K → List ℕ → List K
  muted ks [] = ks
  muted ks (t ∷ ts) = set (muted ks ts) t G.zero

  muted_zero : (ks : List K) (ts : List ℕ) (w : ℕ) → among w ts ≡ true → label G (muted ks ts) w ≡ G.zero
  muted_zero ks [] w h = absurd (false≢true h)
  muted_zero ks (t ∷ ts) w h =
      ⊎_elim
      (λ e. rw (eqb-true w t e) (set_same (muted ks ts) t))
      (λ e. ⊎_elim (λ f. rw (eqb-true w t f) (set_same (muted ks ts) t)) (λ f. set_other (muted ks ts) t w (eqb-false w t f) ∙ muted_zero ks ts w e) (cases_Bool (eqb w t)))
      (or_cases (eqb w t) (among w ts) h)

  muted_other : (ks : List K) (ts : List ℕ) (w : ℕ) → among w ts ≡ false → label G (muted ks ts) w ≡ label G ks w
  muted_other ks [] w h = refl
  muted_other ks (t ∷ ts) w h =
      let n = or_parts (eqb w t) (among w ts) h in
      set_other (muted ks ts) t w (eqb-false w t n.0) ∙ muted_other ks ts w n.1

  -- what the track t adds to a sum
  abbrev pub adds : (Track → Bool) → List Track → List K → ℕ → K
  adds pick y ks t = cond (pick (track y t)) (label G ks t) G.zero

  cond_zero : (b : Bool) → cond b G.zero G.zero ≡ G.zero
  cond_zero true = refl
  cond_zero false = refl

  pub total_out : (pick : Track → Bool) (y : List Track) (ks : List K) (t : ℕ) → t < length y → length ks ≡ length y → total G pick y ks ≡ G.sum (adds pick y ks t) (total G pick y (set ks t G.zero))
  total_out pick [] ks t h e = absurd (omega arith)
  total_out pick (x ∷ y) [] t h e = absurd (omega arith)
  total_out pick (x ∷ y) (k ∷ ks) zero h e = ap (G.sum _) (sym (ap (λ z. G.sum z (total G pick y ks)) (cond_zero (pick x)) ∙ G.unit _))
  total_out pick (x ∷ y) (k ∷ ks) (suc t) h e = ap (G.sum _) (total_out pick y ks t (omega arith) (omega arith)) ∙ left_comm G _ _ _

  cond_quiet : (b : Bool) (k : K) → (b ≡ true → k ≡ G.zero) → cond b k G.zero ≡ G.zero
  cond_quiet true k h = h refl
  cond_quiet false k h = refl

  pub total_zero : (pick : Track → Bool) (y : List Track) (ks : List K) → ((t : ℕ) → pick (track y t) ≡ true → label G ks t ≡ G.zero) → total G pick y ks ≡ G.zero
  total_zero pick [] ks h = refl
  total_zero pick (x ∷ y) [] h = refl
  total_zero pick (x ∷ y) (k ∷ ks) h = ap (λ z. G.sum z (total G pick y ks)) (cond_quiet (pick x) k (h 0)) ∙ G.unit _ ∙ total_zero pick y ks (λ t. h (suc t))

  module _ (y : List Track) (ks : List K) (b : Steady G y ks) where
    -- no open track but those of ts is picked
    abbrev Picks : (Track → Bool) → List ℕ → Type 0
    Picks pick ts = (w : ℕ) → Open y w → among w ts ≡ false → pick (track y w) ≡ false

    rest_zero : (pick : Track → Bool) (ts : List ℕ) → Picks pick ts → total G pick y (muted ks ts) ≡ G.zero
    rest_zero pick ts only = total_zero pick y (muted ks ts) (λ w p.
        ⊎_elim
        (muted_zero ks ts w)
        (λ n. muted_other ks ts w n ∙ ⊎_elim (b.shut_zero w) (λ o. absurd (true≢false (sym p ∙ only w o n))) (cases_Bool (track y w).shut))
        (cases_Bool (among w ts)))

    total_one : (pick : Track → Bool) (t : ℕ) → Open y t → Picks pick (t ∷ []) → total G pick y ks ≡ adds pick y ks t
    total_one pick t o only = total_out pick y ks t (open_within y t o) b.one_each ∙ ap (G.sum _) (rest_zero pick (t ∷ []) only) ∙ unit_right G _

    total_two : (pick : Track → Bool) (t u : ℕ) → t ≢ u → Open y t → Open y u → Picks pick (t ∷ u ∷ []) → total G pick y ks ≡ G.sum (adds pick y ks u) (adds pick y ks t)
    total_two pick t u d o p only =
        total_out pick y ks u (open_within y u p) b.one_each
        ∙ ap (G.sum _)
        (total_out pick y (set ks u G.zero) t (open_within y t o) (length-set ks u G.zero ∙ b.one_each)
        ∙ ap (G.sum _) (rest_zero pick (t ∷ u ∷ []) only)
        ∙ unit_right G _
        ∙ ap (λ k. cond (pick (track y t)) k G.zero) (set_other ks u t d))

    adds_is : (pick : Track → Bool) (t : ℕ) → pick (track y t) ≡ true → adds pick y ks t ≡ label G ks t
    adds_is pick t e = rw e

    adds_none : (pick : Track → Bool) (t : ℕ) → pick (track y t) ≡ false → adds pick y ks t ≡ G.zero
    adds_none pick t e = rw e

    pub zero_on_bridge : (t : ℕ) → Bridge y t → label G ks t ≡ G.zero
    zero_on_bridge t s =
        let S : ℕ → Bool = side y (t ∷ []) (track y t).first in
        let in_S : S (track y t).first ≡ true = side_in y (t ∷ []) _ here in
        let out_S : S (track y t).second ≡ false = side_out y (t ∷ []) _ (bridge_not_around y t s) in
        sym (total_one (leaves S) t s.0 (side_leaves y (t ∷ []) _) ∙ adds_is (leaves S) t (rw (in_S, out_S)))
        ∙ cut G S y ks b
        ∙ total_one (enters S) t s.0 (side_enters y (t ∷ []) _)
        ∙ adds_none (enters S) t (rw (in_S, out_S))

    -- t and u are a cut pair: with both shut, each has one end with the first point of t
    module _ (t u : ℕ) (m : CutPair y t u) where
      abbrev half : ℕ → Bool
      half = side y (t ∷ u ∷ []) (track y t).first

      half_t : (half (track y t).first ≡ true) × (half (track y t).second ≡ false)
      half_t = (side_in y (t ∷ u ∷ []) _ here, side_out y (t ∷ u ∷ []) _ (pair_not_around y t u m))

      -- u leads out of the half as t does, or into it
      half_u : ((half (track y u).first ≡ true) × (half (track y u).second ≡ false)) ⊎ ((half (track y u).first ≡ false) × (half (track y u).second ≡ true))
      half_u = go (only_one_more (but (t ∷ u ∷ [])) (but (t ∷ [])) y u (λ w h. grind (arith, nat_tests)) (spared y t m.open_first m.not_bridge_first (across y t m.open_first)))
        where
          go : Bridged (shut_also y (t ∷ u ∷ [])) (track y u).first (track y u).second (track y t).first (track y t).second → ((half (track y u).first ≡ true) × (half (track y u).second ≡ false)) ⊎ ((half (track y u).first ≡ false) × (half (track y u).second ≡ true))
          go (inl j) = absurd (pair_not_around y t u m j)
          go (inr (inl h)) = inl (side_in y (t ∷ u ∷ []) _ h.0, side_out y (t ∷ u ∷ []) _ (λ j. pair_not_around y t u m (trans j h.1)))
          go (inr (inr h)) = inr (side_out y (t ∷ u ∷ []) _ (λ j. pair_not_around y t u m (trans j h.1)), side_in y (t ∷ u ∷ []) _ h.0)

      across_half : G.sum (adds (leaves half) y ks u) (label G ks t) ≡ adds (enters half) y ks u
      across_half =
          ap (G.sum _) (sym (adds_is (leaves half) t (rw (half_t.0, half_t.1))))
          ∙ sym (total_two (leaves half) t u m.different m.open_first m.open_second (side_leaves y (t ∷ u ∷ []) _))
          ∙ cut G half y ks b
          ∙ total_two (enters half) t u m.different m.open_first m.open_second (side_enters y (t ∷ u ∷ []) _)
          ∙ ap (G.sum _) (adds_none (enters half) t (rw (half_t.0, half_t.1)))
          ∙ unit_right G _

      pub alike_on_pair : (label G ks t ≡ label G ks u) ⊎ (label G ks t ≡ G.opposite (label G ks u))
      alike_on_pair =
          ⊎_elim
          (λ h. inr (opposite_from G _ _ (ap (λ k. G.sum k (label G ks t)) (sym (adds_is (leaves half) u (rw (h.0, h.1)))) ∙ across_half ∙ adds_none (enters half) u (rw (h.0, h.1)))))
          (λ h. inl (sym (G.unit _) ∙ ap (λ k. G.sum k (label G ks t)) (sym (adds_none (leaves half) u (rw h.0))) ∙ across_half ∙ adds_is (enters half) u (rw (h.0, h.1))))
          half_u
