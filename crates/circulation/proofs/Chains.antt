-- Chains: one track more, and the sum of the labels along a chain. Assumes nothing.
use Rattle.std.proofs.Common.{◌≡◌, ℕ, zero, suc, ◌+◌, ◌<◌, ◌≤◌, Bool, true, false, cond, ◌≢◌, List, [], ◌∷◌, length, get_or, set, sym, refl, ap, ◌∙◌, ⊎_elim, add-one, arith}
use Rattle.std.proofs.lemmas.List.{get_or-set_same, get_or-set_other}
use Rattle.std.proofs.lemmas.Bool.{cases_eq, cases_Bool, true≢false}
use Rattle.network.specs.declared.track.Track.{Track}
use Rattle.graph.specs.Yards.{track}
use Rattle.label.specs.Groups.{Group}
use Rattle.circulation.specs.Labels.{label, total}
use Rattle.circulation.specs.Chains.{highest, Chained}
use Rattle.circulation.proofs.Totals.{unit_right, left_comm}

-- one number more, picked or not
pub highest_more : (pick : ℕ → Bool) (n : ℕ) → pick n ≡ true → highest pick (n + 1) ≡ n + 1
highest_more pick n e = ap (highest pick) (add-one n) ∙ ap (λ b. cond b (suc n) (highest pick n)) e ∙ sym (add-one n)

pub highest_same : (pick : ℕ → Bool) (n : ℕ) → pick n ≡ false → highest pick (n + 1) ≡ highest pick n
highest_same pick n e = ap (highest pick) (add-one n) ∙ ap (λ b. cond b (suc n) (highest pick n)) e

module _ (pick : ℕ → Track → Bool) (y : List Track) (heads links : List ℕ) where
  pub chained_none : ((p : ℕ) → p < 512 → get_or heads p 0 ≡ 0) → Chained pick y heads links 0
  chained_none none = (none, λ p t h. absurd (omega arith))

  -- a track that is picked for no point is in no chain
  pub chained_same : (n : ℕ) → ((p : ℕ) → pick p (track y n) ≡ false) → Chained pick y heads links n → Chained pick y heads links (n + 1)
  chained_same n none c = (
    λ p h. c.0 p h ∙ sym (highest_same _ n (none p)),
    λ p t h e. ⊎_elim (λ same. absurd (true≢false (sym e ∙ ap (λ u. pick p (track y u)) same ∙ none p))) (λ ne. c.1 p t (omega (arith, ne)) e) (cases_eq t n),
  )

  -- a track that is picked for one point becomes the head of its chain
  pub chained_more : (n q : ℕ) → q < 512 → length heads ≡ 512 → n < length links → pick q (track y n) ≡ true → ((p : ℕ) → p ≢ q → pick p (track y n) ≡ false) → Chained pick y heads links n
      → Chained pick y (set heads q (n + 1)) (set links n (get_or heads q 0)) (n + 1)
  chained_more n q low whole room own apart c = (
    λ p h. ⊎_elim
        (λ same. ap (λ k. get_or (set heads q (n + 1)) k 0) same ∙ get_or-set_same heads q (n + 1) 0 (omega arith) ∙ sym (highest_more _ n (ap (λ k. pick k (track y n)) same ∙ own)))
        (λ ne. get_or-set_other heads q p (n + 1) 0 ne ∙ c.0 p h ∙ sym (highest_same _ n (apart p ne)))
        (cases_eq p q),
    λ p t h e. ⊎_elim
        (λ same.
        let at_own : p ≡ q = ⊎_elim (λ is. is) (λ ne. absurd (true≢false (sym e ∙ ap (λ u. pick p (track y u)) same ∙ apart p ne))) (cases_eq p q) in
        ap (λ u. get_or (set links n (get_or heads q 0)) u 0) same ∙ get_or-set_same links n _ 0 room ∙ c.0 q low
        ∙ ap (λ k. highest (λ u. pick k (track y u)) n) (sym at_own) ∙ ap (highest (λ u. pick p (track y u))) (sym same))
        (λ ne. get_or-set_other links n t _ 0 ne ∙ c.1 p t (omega (arith, ne)) e)
        (cases_eq t n),
  )

module _ {K : Type 0} (G : Group K) (ks : List K) where
  -- the sum of the labels of the numbers below n that are picked
  abbrev pub sum_below : (ℕ → Bool) → ℕ → K
  sum_below pick zero = G.zero
  sum_below pick (suc n) = G.sum (cond (pick n) (label G ks n) G.zero) (sum_below pick n)

  pub sum_none : (pick : ℕ → Bool) (n : ℕ) → highest pick n ≡ 0 → sum_below pick n ≡ G.zero
  sum_none pick zero e = refl
  sum_none pick (suc n) e =
      ⊎_elim
      (λ here. absurd (let some : suc n ≡ 0 = sym (ap (λ b. cond b (suc n) (highest pick n)) here) ∙ e in omega arith))
      (λ off. ap (λ b. G.sum (cond b (label G ks n) G.zero) (sum_below pick n)) off ∙ G.unit _ ∙ sum_none pick n (sym (ap (λ b. cond b (suc n) (highest pick n)) off) ∙ e))
      (cases_Bool (pick n))

  -- what the highest number adds
  pub record Top (pick : ℕ → Bool) (n t : ℕ) : Type 0 where
    pub low : t < n
    pub picked : pick t ≡ true
    pub adds : sum_below pick n ≡ G.sum (label G ks t) (sum_below pick t)

  pub sum_top : (pick : ℕ → Bool) (n t : ℕ) → highest pick n ≡ t + 1 → Top pick n t
  sum_top pick zero t e = absurd (omega arith)
  sum_top pick (suc n) t e =
      ⊎_elim
      (λ here.
      let some : suc n ≡ t + 1 = sym (ap (λ b. cond b (suc n) (highest pick n)) here) ∙ e in
      let same : n ≡ t = omega arith in
      record { low = omega arith; picked = ap pick (sym same) ∙ here; adds = ap (λ b. G.sum (cond b (label G ks n) G.zero) (sum_below pick n)) here ∙ ap (λ u. G.sum (label G ks u) (sum_below pick u)) same })
      (λ off.
      let w = sum_top pick n t (sym (ap (λ b. cond b (suc n) (highest pick n)) off) ∙ e) in
      record { low = omega (arith, w.low); picked = w.picked; adds = ap (λ b. G.sum (cond b (label G ks n) G.zero) (sum_below pick n)) off ∙ G.unit _ ∙ w.adds })
      (cases_Bool (pick n))

-- the sum over a list of tracks, by their numbers
below_cons : {K : Type 0} (G : Group K) (pick : Track → Bool) (x : Track) (y : List Track) (k : K) (ks : List K) (n : ℕ) → sum_below G (k ∷ ks) (λ t. pick (track (x ∷ y) t)) (suc n) ≡ G.sum (cond (pick x) k G.zero) (sum_below G ks (λ t. pick (track y t)) n)
below_cons G pick x y k ks zero = refl
below_cons G pick x y k ks (suc n) = ap (G.sum _) (below_cons G pick x y k ks n) ∙ left_comm G _ _ _

pub total_below : {K : Type 0} (G : Group K) (pick : Track → Bool) (y : List Track) (ks : List K) → length ks ≡ length y → total G pick y ks ≡ sum_below G ks (λ t. pick (track y t)) (length y)
total_below G pick [] ks e = refl
total_below G pick (x ∷ y) [] e = absurd (omega arith)
total_below G pick (x ∷ y) (k ∷ ks) e = ap (G.sum _) (total_below G pick y ks (omega arith)) ∙ sym (below_cons G pick x y k ks (length y))

pub highest_le : (pick : ℕ → Bool) (n : ℕ) → highest pick n ≤ n
highest_le pick zero = omega arith
highest_le pick (suc n) =
    ⊎_elim
    (λ here. let e = ap (λ b. cond b (suc n) (highest pick n)) here in omega arith)
    (λ off. let e = ap (λ b. cond b (suc n) (highest pick n)) off in let l = highest_le pick n in omega arith)
    (cases_Bool (pick n))

-- a sum that goes along a chain: what is summed so far, and what is still to come
pub record Along {K : Type 0} (G : Group K) (ks : List K) (pick : ℕ → Bool) (size : ℕ) (so_far : K) (at : ℕ) : Type 0 where
  pub bound : ℕ
  pub low : bound ≤ size
  pub here : at ≡ highest pick bound
  pub sums : G.sum so_far (sum_below G ks pick bound) ≡ sum_below G ks pick size

module _ {K : Type 0} (G : Group K) (ks : List K) (pick : ℕ → Bool) (size : ℕ) where
  pub along_start : (so_far : K) (at : ℕ) → so_far ≡ G.zero → at ≡ highest pick size → Along G ks pick size so_far at
  along_start so_far at z e = record { bound = size; low = omega arith; here = e; sums = ap (λ s. G.sum s (sum_below G ks pick size)) z ∙ G.unit _ }

  module _ {so_far : K} {at : ℕ} (a : Along G ks pick size so_far at) where
    pub along_done : at ≡ 0 → so_far ≡ sum_below G ks pick size
    along_done e = sym (unit_right G _) ∙ ap (G.sum _) (sym (sum_none G ks pick a.bound (sym a.here ∙ e))) ∙ a.sums

    module _ (t : ℕ) (e : at ≡ t + 1) where
      top : Top G ks pick a.bound t
      top = sum_top G ks pick a.bound t (sym a.here ∙ e)

      -- the number is low and picked, and the next one adds what it carries
      pub along_low : t < size
      along_low = omega (arith, top.low, a.low)

      pub along_picked : pick t ≡ true
      along_picked = top.picked

      pub along_more : (more : K) (next : ℕ) → more ≡ G.sum so_far (label G ks t) → next ≡ highest pick t → Along G ks pick size more next
      along_more more next is on =
          record { bound = t; low = omega (arith, along_low); here = on; sums = ap (λ s. G.sum s (sum_below G ks pick t)) is ∙ G.assoc _ _ _ ∙ ap (G.sum _) (sym top.adds) ∙ a.sums }
