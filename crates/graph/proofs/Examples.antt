-- Small yards by computation. Assumes nothing.
use Rattle.std.proofs.Common.{◌≡◌, ℕ, zero, suc, ◌<◌, Bool, true, false, not, ◌&&◌, ◌||◌, eqb, ltb, ◌≢◌, ◌⊎◌, ◌↔◌, List, [], ◌∷◌, length, Decides, sym, refl, ◌∙◌, inl, inr, ⊎_elim, arith}
use mathlib.Core.Bool.{beq}
use Rattle.std.proofs.lemmas.Bool.Decides.{nat_tests, Decides-and, Decides-not, Decides-eqb}
use Rattle.std.proofs.lemmas.Bool.{and_parts, cases_eq, ltb-true}
use Rattle.network.specs.declared.track.Track.{Track}
use Rattle.graph.specs.Yards.{among}
use Rattle.graph.specs.Worked.{together, HasCuts, WorkedYards}
use Rattle.graph.proofs.Fronts.{open_within}
use Rattle.graph.proofs.Tests.{bridge?, pair?, decides_bridge, decides_pair}

-- a test passes at each number below n
abbrev every : ℕ → (ℕ → Bool) → Bool
every zero p = true
every (suc n) p = p n && every n p

every_at : (n : ℕ) (p : ℕ → Bool) → every n p ≡ true → (k : ℕ) → k < n → p k ≡ true
every_at zero p h k l = absurd (omega arith)
every_at (suc n) p h k l =
    let parts = and_parts (p n) (every n p) h in
    ⊎_elim (λ e. rw e parts.0) (λ ne. every_at n p parts.1 k (omega arith)) (cases_eq k n)

beq_same : (a b : Bool) → beq a b ≡ true → a ≡ b
beq_same true true h = refl
beq_same true false h = sym h
beq_same false true h = h
beq_same false false h = refl

abbrev all_below : ℕ → List ℕ → Bool
all_below n [] = true
all_below n (t ∷ ts) = ltb t n && all_below n ts

abbrev each_below : ℕ → List (List ℕ) → Bool
each_below n [] = true
each_below n (c ∷ cs) = all_below n c && each_below n cs

among_below : (n t : ℕ) (ts : List ℕ) → all_below n ts ≡ true → among t ts ≡ true → t < n
among_below n t [] h e = let z : ◌≡◌ {A = ℕ} 0 1 = cc in absurd (omega arith)
among_below n t (u ∷ us) h e =
    let parts = and_parts (ltb u n) (all_below n us) h in
    let low = ltb-true u n parts.0 in
    ⊎_elim (λ same. omega arith) (λ ne. among_below n t us parts.1 (grind (arith, nat_tests))) (cases_eq t u)

both_below : (n t u : ℕ) (c : List ℕ) → all_below n c ≡ true → (among t c && among u c) ≡ true → (t < n) × (u < n)
both_below n t u c h e = let parts = and_parts (among t c) (among u c) e in (among_below n t c h parts.0, among_below n u c h parts.1)

or_split : (a b : Bool) → (a || b) ≡ true → (a ≡ true) ⊎ (b ≡ true)
or_split true b e = inl refl
or_split false b e = inr e

together_below : (n t u : ℕ) (cs : List (List ℕ)) → each_below n cs ≡ true → together t u cs ≡ true → (t < n) × (u < n)
together_below n t u [] h e = let z : ◌≡◌ {A = ℕ} 0 1 = cc in absurd (omega arith)
together_below n t u (c ∷ cs) h e =
    let parts = and_parts (all_below n c) (each_below n cs) h in
    ⊎_elim (both_below n t u c parts.0) (together_below n t u cs parts.1) (or_split (among t c && among u c) (together t u cs) e)

module _ (y : List Track) (bridges : List ℕ) (classes : List (List ℕ)) where
  abbrev expected : ℕ → ℕ → Bool
  expected t u = not (eqb t u) && together t u classes

  abbrev at_pair : ℕ → ℕ → Bool
  at_pair t u = beq (pair? y t u) (expected t u)

  abbrev at_track : ℕ → Bool
  at_track t = beq (bridge? y t) (among t bridges) && every (length y) (at_pair t)

  abbrev passes : Bool
  passes = all_below (length y) bridges && (each_below (length y) classes && every (length y) at_track)

  is_true : (b : Bool) → (b ≡ true) ↔ (b ≡ true)
  is_true b = (λ h. h, λ h. h)

  decides_expected : (t u : ℕ) → Decides (expected t u) ((t ≢ u) × (together t u classes ≡ true))
  decides_expected t u = Decides-and _ _ (Decides-not _ (Decides-eqb t u)) (is_true _)

  module _ (e : passes ≡ true) where
    low_bridges : all_below (length y) bridges ≡ true
    low_bridges = (and_parts (all_below (length y) bridges) _ e).0

    low_classes : each_below (length y) classes ≡ true
    low_classes = (and_parts (each_below (length y) classes) _ (and_parts (all_below (length y) bridges) _ e).1).0

    here : (t : ℕ) → t < length y → at_track t ≡ true
    here = every_at (length y) at_track (and_parts (each_below (length y) classes) _ (and_parts (all_below (length y) bridges) _ e).1).1

    same_bridge : (t : ℕ) → t < length y → bridge? y t ≡ among t bridges
    same_bridge t h = beq_same _ _ (and_parts (beq (bridge? y t) (among t bridges)) (every (length y) (at_pair t)) (here t h)).0

    same_pair : (t u : ℕ) → t < length y → u < length y → pair? y t u ≡ expected t u
    same_pair t u h k = beq_same _ _ (every_at (length y) (at_pair t) (and_parts (beq (bridge? y t) (among t bridges)) (every (length y) (at_pair t)) (here t h)).1 u k)

    worked : HasCuts y bridges classes
    worked = record {
      bridge = λ t. (
        λ b. sym (same_bridge t (open_within y t b.0)) ∙ (decides_bridge y t).1 b,
        λ h. (decides_bridge y t).0 (same_bridge t (among_below (length y) t bridges low_bridges h) ∙ h),
      );
      pair = λ t u. (
        λ p. (decides_expected t u).0 (sym (same_pair t u (open_within y t p.open_first) (open_within y u p.open_second)) ∙ (decides_pair y t u).1 p),
        λ h. let low = together_below (length y) t u classes low_classes h.1 in (decides_pair y t u).0 (same_pair t u low.0 low.1 ∙ (decides_expected t u).1 h),
      );
    }

pub worked_yards : WorkedYards
worked_yards = record {
  triangle = worked _ _ _ refl;
  fan = worked _ _ _ refl;
  fan_shut = worked _ _ _ refl;
  parallel = worked _ _ _ refl;
  loop = worked _ _ _ refl;
}
