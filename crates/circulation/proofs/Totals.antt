-- Sums of labels, and what they are over a set of points. Assumes nothing.
use Rattle.std.proofs.Common.{◌≡◌, ℕ, zero, suc, ◌<◌, max, Bool, true, false, cond, not, ◌&&◌, ◌||◌, eqb, ltb, List, [], ◌∷◌, sym, refl, ap, ◌∙◌, ⊎_elim, arith}
use Rattle.std.proofs.lemmas.Bool.Decides.{nat_tests}
use Rattle.std.proofs.lemmas.Bool.{cases_Bool, true≢false}
use Rattle.network.specs.declared.track.Track.{Track}
use Rattle.graph.specs.Yards.{track}
use Rattle.label.specs.Groups.{Group}
use Rattle.circulation.proofs.Steady.{Steady}
use Rattle.circulation.specs.Labels.{total, leaves, enters}

near_in : (S : ℕ → Bool) (a n : ℕ) → S n ≡ true → (ltb a (suc n) && S a) ≡ (eqb a n || (ltb a n && S a))
near_in S a n h = grind (arith, nat_tests)

near_apart : (S : ℕ → Bool) (a n : ℕ) → (eqb a n && (ltb a n && S a)) ≡ false
near_apart S a n = grind (arith, nat_tests)

near_out : (S : ℕ → Bool) (a n : ℕ) → S n ≡ false → (ltb a (suc n) && S a) ≡ (ltb a n && S a)
near_out S a n h = grind (arith, nat_tests)

none_below : (S : ℕ → Bool) (a : ℕ) → (ltb a 0 && S a) ≡ false
none_below S a = grind (arith, nat_tests)

all_below : (S : ℕ → Bool) (a n : ℕ) → a < n → S a ≡ (ltb a n && S a)
all_below S a n h = grind (arith, nat_tests)

split_out : (a b : Bool) → (a ≡ ((a && b) || (a && not b))) × (((a && b) && (a && not b)) ≡ false)
split_out true true = (refl, refl)
split_out true false = (refl, refl)
split_out false b = (refl, refl)

split_in : (a b : Bool) → (b ≡ ((a && b) || (b && not a))) × (((a && b) && (b && not a)) ≡ false)
split_in true true = (refl, refl)
split_in true false = (refl, refl)
split_in false true = (refl, refl)
split_in false false = (refl, refl)

abbrev from : Track → ℕ
from x = x.first

abbrev to : Track → ℕ
to x = x.second

-- above every point of y
abbrev bound : List Track → ℕ
bound [] = 1
bound (x ∷ y) = suc (max (max x.first x.second) (bound y))

from_below : (y : List Track) (t : ℕ) → from (track y t) < bound y
from_below [] t = omega arith
from_below (x ∷ y) zero = omega arith
from_below (x ∷ y) (suc t) = let h = from_below y t in omega arith

to_below : (y : List Track) (t : ℕ) → to (track y t) < bound y
to_below [] t = omega arith
to_below (x ∷ y) zero = omega arith
to_below (x ∷ y) (suc t) = let h = to_below y t in omega arith

module _ {K : Type 0} (G : Group K) where
  pub unit_right : (a : K) → G.sum a G.zero ≡ a
  unit_right a = G.comm a G.zero ∙ G.unit a

  pub left_comm : (a b c : K) → G.sum a (G.sum b c) ≡ G.sum b (G.sum a c)
  left_comm a b c = sym (G.assoc a b c) ∙ ap (λ d. G.sum d c) (G.comm a b) ∙ G.assoc b a c

  pub medial : (a b c d : K) → G.sum (G.sum a b) (G.sum c d) ≡ G.sum (G.sum a c) (G.sum b d)
  medial a b c d = G.assoc a b _ ∙ ap (G.sum a) (left_comm b c d) ∙ sym (G.assoc a c _)

  pub cancel : (a b c : K) → G.sum a b ≡ G.sum a c → b ≡ c
  cancel a b c e = sym (drop b) ∙ ap (G.sum (G.opposite a)) e ∙ drop c
    where
      drop : (d : K) → G.sum (G.opposite a) (G.sum a d) ≡ d
      drop d = sym (G.assoc _ a d) ∙ ap (λ z. G.sum z d) (G.inverse a) ∙ G.unit d

  pub opposite_from : (a b : K) → G.sum a b ≡ G.zero → b ≡ G.opposite a
  opposite_from a b e = cancel a b (G.opposite a) (e ∙ sym (G.inverse a) ∙ G.comm _ a)

  -- pick is the one or the other, never both
  abbrev pub Splits : (Track → Bool) → (Track → Bool) → (Track → Bool) → Type 0
  Splits pick p q = (x : Track) → (pick x ≡ (p x || q x)) × ((p x && q x) ≡ false)

  cond_splits : (r p q : Bool) (k : K) → r ≡ (p || q) → (p && q) ≡ false → cond r k G.zero ≡ G.sum (cond p k G.zero) (cond q k G.zero)
  cond_splits r true true k e d = absurd (true≢false d)
  cond_splits r true false k e d = rw e (sym (unit_right k))
  cond_splits r false q k e d = rw e (sym (G.unit _))

  pub total_splits : (pick p q : Track → Bool) → Splits pick p q → (y : List Track) (ks : List K) → total G pick y ks ≡ G.sum (total G p y ks) (total G q y ks)
  total_splits pick p q s [] ks = sym (G.unit _)
  total_splits pick p q s (x ∷ y) [] = sym (G.unit _)
  total_splits pick p q s (x ∷ y) (k ∷ ks) =
      ap (λ z. G.sum z (total G pick y ks)) (cond_splits (pick x) (p x) (q x) k (s x).0 (s x).1) ∙ ap (G.sum _) (total_splits pick p q s y ks) ∙ medial _ _ _ _

  pub total_same : (p q : Track → Bool) (y : List Track) (ks : List K) → ((t : ℕ) → p (track y t) ≡ q (track y t)) → total G p y ks ≡ total G q y ks
  total_same p q [] ks s = refl
  total_same p q (x ∷ y) [] s = refl
  total_same p q (x ∷ y) (k ∷ ks) s = ap (λ b. G.sum (cond b k G.zero) (total G p y ks)) (s 0) ∙ ap (G.sum _) (total_same p q y ks (λ t. s (suc t)))

  module _ (S : ℕ → Bool) (y : List Track) (ks : List K) where
    -- the labels of the tracks whose end by `end` is in S and below n
    abbrev upto : (Track → ℕ) → ℕ → K
    upto end n = total G (λ x. ltb (end x) n && S (end x)) y ks

    upto_in : (end : Track → ℕ) (n : ℕ) → S n ≡ true → upto end (suc n) ≡ G.sum (total G (λ x. eqb (end x) n) y ks) (upto end n)
    upto_in end n h = total_splits _ _ _ (λ x. (near_in S (end x) n h, near_apart S (end x) n)) y ks

    upto_out : (end : Track → ℕ) (n : ℕ) → S n ≡ false → upto end (suc n) ≡ upto end n
    upto_out end n h = total_same _ _ y ks (λ t. near_out S (end (track y t)) n h)

    upto_none : (end : Track → ℕ) → upto end 0 ≡ total G (λ _. false) y ks
    upto_none end = total_same _ (λ _. false) y ks (λ t. none_below S (end (track y t)))

    upto_all : (end : Track → ℕ) (n : ℕ) → ((t : ℕ) → end (track y t) < n) → total G (λ x. S (end x)) y ks ≡ upto end n
    upto_all end n h = total_same _ _ y ks (λ t. all_below S (end (track y t)) n (h t))

    upto_even : Steady G y ks → (n : ℕ) → upto from n ≡ upto to n
    upto_even b zero = upto_none from ∙ sym (upto_none to)
    upto_even b (suc n) =
        ⊎_elim
        (λ h. upto_in from n h ∙ ap (λ z. G.sum z (upto from n)) (b.at_point n) ∙ ap (G.sum _) (upto_even b n) ∙ sym (upto_in to n h))
        (λ h. upto_out from n h ∙ upto_even b n ∙ sym (upto_out to n h))
        (cases_Bool (S n))

    -- as much leaves the points of S as enters them
    pub set_even : Steady G y ks → total G (λ x. S x.first) y ks ≡ total G (λ x. S x.second) y ks
    set_even b = upto_all from (bound y) (from_below y) ∙ upto_even b (bound y) ∙ sym (upto_all to (bound y) (to_below y))

    -- THE CUT THEOREM
    pub cut : Steady G y ks → total G (leaves S) y ks ≡ total G (enters S) y ks
    cut b =
        cancel (total G (λ x. S x.first && S x.second) y ks) _ _
        (sym (total_splits (λ x. S x.first) _ (leaves S) (λ x. split_out (S x.first) (S x.second)) y ks)
        ∙ set_even b
        ∙ total_splits (λ x. S x.second) _ (enters S) (λ x. split_in (S x.first) (S x.second)) y ks)
