-- Some tracks of the forest have an end that no other of them has, away from any given point. Assumes nothing.
use Rattle.std.proofs.Common.{◌≡◌, ℕ, zero, suc, ◌<◌, Bool, true, false, not, ◌&&◌, eqb, ◌≢◌, ◌⊎◌, List, length, sym, refl, ◌∙◌, subst, inl, inr, ⊎_elim, arith}
use Rattle.std.proofs.lemmas.Bool.{cases_Bool, cases_eq, true≢false, and_parts, and_from, not-true, not_from_false, eqb-false, ne_eqb}
use Rattle.network.specs.declared.track.Track.{Track}
use Rattle.graph.specs.Yards.{Joined, here, track, only}
use Rattle.graph.specs.Forests.{InForest, Touches, Leaf}
use Rattle.graph.proofs.Joins.{trans, turn}
use Rattle.graph.proofs.Decide.{joined?, decides_joined, joined_or}
use Rattle.graph.proofs.Subyards.{across_only}
use Rattle.graph.proofs.Fronts.{open_within}
use Rattle.graph.proofs.Acyclic.{only_take}

-- a number below n that passes a test, or none does
some_or_none : (pick : ℕ → Bool) (n : ℕ) → ((t : ℕ) × (pick t ≡ true)) ⊎ ((t : ℕ) → t < n → pick t ≡ false)
some_or_none pick zero = inr (λ t h. absurd (omega arith))
some_or_none pick (suc n) = go (some_or_none pick n) (cases_Bool (pick n))
  where
    go : ((t : ℕ) × (pick t ≡ true)) ⊎ ((t : ℕ) → t < n → pick t ≡ false) → (pick n ≡ true) ⊎ (pick n ≡ false) → ((t : ℕ) × (pick t ≡ true)) ⊎ ((t : ℕ) → t < suc n → pick t ≡ false)
    go (inl s) _ = inl s
    go (inr f) (inl e) = inl (n, e)
    go (inr f) (inr e) = inr (λ t h. ⊎_elim (λ same. rw same e) (λ ne. f t (omega arith)) (cases_eq t n))

-- a kept track joins its ends, whichever is which
touch_joins : (keep : ℕ → Bool) (y : List Track) (t p : ℕ) → keep t ≡ true → InForest y t → Touches y t p → Joined (only keep y) (track y t).first p
touch_joins keep y t p k f (inl e) = rw (sym e) here
touch_joins keep y t p k f (inr e) = rw (sym e) (across_only keep y t k f.0)

module _ (y : List Track) where
  abbrev Forest : (ℕ → Bool) → Type 0
  Forest keep = (t : ℕ) → keep t ≡ true → InForest y t

  -- those of keep but n
  abbrev but_one : (ℕ → Bool) → ℕ → ℕ → Bool
  but_one keep n t = keep t && not (eqb t n)

  -- those on the side of the point e
  abbrev beside : (ℕ → Bool) → ℕ → ℕ → Bool
  beside keep e t = keep t && joined? (only keep y) e (track y t).first

  module _ (keep : ℕ → Bool) (forest : Forest keep) where
    beside_in : (e t p : ℕ) → keep t ≡ true → Touches y t p → Joined (only keep y) e p → beside keep e t ≡ true
    beside_in e t p k h j = and_from _ _ k ((decides_joined (only keep y) e _).1 (trans j (turn (touch_joins keep y t p k (forest t k) h))))

    beside_at : (e t p : ℕ) → beside keep e t ≡ true → Touches y t p → Joined (only keep y) e p
    beside_at e t p b h = let w = and_parts _ _ b in trans ((decides_joined (only keep y) e _).0 w.1) (touch_joins keep y t p w.0 (forest t w.0) h)

  -- n is kept, and the others have a leaf where they have any: e and f are the ends of n, and neither f nor r is on the side of e
  module _ (keep : ℕ → Bool) (forest : Forest keep) (n e f r : ℕ) (kept : keep n ≡ true) (at-e : Touches y n e) (ends : (p : ℕ) → Touches y n p → (p ≡ e) ⊎ (p ≡ f)) where
    abbrev rest : ℕ → Bool
    rest = but_one keep n

    rest_forest : Forest rest
    rest_forest t h = forest t (and_parts _ _ h).0

    rest_in : (t : ℕ) → keep t ≡ true → t ≢ n → rest t ≡ true
    rest_in t k ne = and_from _ _ k (not_from_false _ (ne_eqb t n ne))

    side_leaf : ¬ Joined (only rest y) e f → ¬ Joined (only rest y) e r → (m : ℕ) → ((t : ℕ) → rest t ≡ true → t < m) → ((t : ℕ) → beside rest e t ≡ true → Leaf y (beside rest e) e) → Leaf y keep r
    side_leaf not_f not-r m low leaf = go (some_or_none (beside rest e) m)
      where
        go : ((t : ℕ) × (beside rest e t ≡ true)) ⊎ ((t : ℕ) → t < m → beside rest e t ≡ false) → Leaf y keep r
        go (inl (t, b)) =
            let l = leaf t b in
            let on = beside_at rest rest_forest e l.number l.point l.kept l.touches in
            record {
              point = l.point;
              number = l.number;
              away = λ same. not-r (subst (Joined (only rest y) e) same on);
              kept = (and_parts _ _ (and_parts _ _ l.kept).0).0;
              touches = l.touches;
              alone = λ v k h.
                  ⊎_elim
                  (λ same. absurd (⊎_elim l.away (λ at_f. not_f (subst (Joined (only rest y) e) at_f on)) (ends l.point (subst (λ (w : ℕ). Touches y w l.point) same h))))
                  (λ ne. l.alone v (beside_in rest rest_forest e v l.point (rest_in v k ne) h on) h)
                  (cases_eq v n);
            }
        go (inr none) = record {
          point = e;
          number = n;
          away = λ same. not-r (subst (Joined (only rest y) e) same here);
          kept = kept;
          touches = at-e;
          alone = λ v k h.
              ⊎_elim
              (λ same. same)
              (λ ne. absurd (true≢false (sym (beside_in rest rest_forest e v e (rest_in v k ne) h here) ∙ none v (low v (rest_in v k ne)))))
              (cases_eq v n);
        }

  -- below n
  leaf_below : (n : ℕ) (keep : ℕ → Bool) → Forest keep → ((t : ℕ) → keep t ≡ true → t < n) → (t : ℕ) → keep t ≡ true → (r : ℕ) → Leaf y keep r
  leaf_below zero keep forest low t k r = absurd (let h = low t k in omega arith)
  leaf_below (suc n) keep forest low t k r =
      ⊎_elim
      (λ kept.
      let rest_low : (u : ℕ) → but_one keep n u ≡ true → u < n = λ u h. let w = and_parts _ _ h in let ne = eqb-false u n (not-true _ w.1) in let l = low u w.0 in omega (arith, ne) in
      let apart : ¬ Joined (only (but_one keep n) y) (track y n).first (track y n).second = λ j. (forest n kept).1 (only_take (but_one keep n) n y rest_low j) in
      let inner : (e u : ℕ) → beside (but_one keep n) e u ≡ true → Leaf y (beside (but_one keep n) e) e =
      λ e u b. leaf_below n (beside (but_one keep n) e) (λ v h. forest v (and_parts _ _ (and_parts _ _ h).0).0) (λ v h. rest_low v (and_parts _ _ h).0) u b e in
      ⊎_elim
      (λ j. side_leaf keep forest n (track y n).second (track y n).first r kept (inr refl) (λ p h. ⊎_elim (λ a. inr (sym a)) (λ b. inl (sym b)) h) (λ i. apart (turn i)) (λ i. apart (trans j (turn i))) n rest_low (inner _))
      (λ nj. side_leaf keep forest n (track y n).first (track y n).second r kept (inl refl) (λ p h. ⊎_elim (λ a. inl (sym a)) (λ b. inr (sym b)) h) apart nj n rest_low (inner _))
      (joined_or (only (but_one keep n) y) (track y n).first r))
      (λ gone. leaf_below n keep forest (λ u h. ⊎_elim (λ same. absurd (true≢false (sym h ∙ subst (λ (w : ℕ). keep w ≡ false) (sym same) gone))) (λ ne. let l = low u h in omega (arith, ne)) (cases_eq u n)) t k r)
      (cases_Bool (keep n))

  pub leaf : (keep : ℕ → Bool) → Forest keep → (t : ℕ) → keep t ≡ true → (r : ℕ) → Leaf y keep r
  leaf keep forest t k r = leaf_below (length y) keep forest (λ u h. open_within y u (forest u h).0) t k r
