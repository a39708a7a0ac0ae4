-- The forest has no cycle. Assumes nothing.
use Rattle.std.proofs.Common.{◌≡◌, ℕ, zero, suc, ◌<◌, Bool, true, not, ◌&&◌, eqb, ltb, List, [], ◌∷◌, length, take, ⊎_elim, arith}
use Rattle.std.proofs.lemmas.Bool.Decides.{nat_tests}
use Rattle.std.proofs.lemmas.Bool.{cases_Bool, cases_eq}
use Rattle.network.specs.declared.track.Track.{Track}
use Rattle.graph.specs.Yards.{Joined, Open, Bridge, track, only, Around}
use Rattle.graph.specs.Forests.{InForest}
use Rattle.graph.proofs.Joins.{link, more}
use Rattle.graph.proofs.Subyards.{track_kept, only_open, link_kept, only_more, only_more_open, only_twice, exchange}
use Rattle.graph.proofs.Cuts.{but, not_around_bridge}
use Rattle.graph.proofs.Fronts.{open_within, link_take}

pub only_take : (keep : ℕ → Bool) (n : ℕ) (y : List Track) {a b : ℕ} → ((u : ℕ) → keep u ≡ true → u < n) → Joined (only keep y) a b → Joined (take n y) a b
only_take keep n y h = more (λ c d l. let k = link_kept keep y l in link (link_take n y k.number c d (h k.number k.kept) k.is_open k.ends))

module _ (y : List Track) (keep : ℕ → Bool) (forest : (t : ℕ) → keep t ≡ true → InForest y t) where
  -- those below n, and those but t
  abbrev low : ℕ → ℕ → Bool
  low n u = keep u && ltb u n

  abbrev rest : ℕ → ℕ → ℕ → Bool
  rest n t u = low n u && not (eqb u t)

  not_low : (n : ℕ) → keep n ≡ true → ¬ Joined (only (low n) y) (track y n).first (track y n).second
  not_low n k j = (forest n k).1 (only_take (low n) n y (λ u h. grind (arith, nat_tests)) j)

  apart : (n t : ℕ) → keep t ≡ true → t < n → ¬ Joined (only (rest n t) y) (track y t).first (track y t).second
  apart zero t k h j = omega arith
  apart (suc n) t k h j =
      ⊎_elim
      (λ e. not_low t k (only_more (rest (suc n) t) (low t) y (λ u q. grind (arith, nat_tests)) j))
      (λ ne.
      let below : t < n = omega arith in
      ⊎_elim
      (λ kn. not_low n kn (exchange (rest n t) (rest (suc n) t) (low n) y t n (forest t k).0 (λ u q. grind (arith, nat_tests)) (λ u q. grind (arith, nat_tests)) (grind (arith, nat_tests)) (apart n t k below) j))
      (λ kn. apart n t k below (only_more (rest (suc n) t) (rest n t) y (λ u q. grind (arith, nat_tests)) j))
      (cases_Bool (keep n)))
      (cases_eq t n)

  -- each forest track is a bridge where no track but some of the forest is open
  pub acyclic : (t : ℕ) → keep t ≡ true → Bridge (only keep y) t
  acyclic t k = not_around_bridge (only keep y) t (only_open keep y t k (forest t k).0) not_around
    where
      inner : (u : ℕ) → Open y u → (but (t ∷ []) u && keep u) ≡ true → rest (length y) t u ≡ true
      inner u o h = let below = open_within y u o in grind (arith, nat_tests)

      not_around : ¬ Around (only keep y) (t ∷ []) t
      not_around j =
          apart (length y) t k (open_within y t (forest t k).0)
          (only_more_open (λ u. but (t ∷ []) u && keep u) (rest (length y) t) y inner (rw (track_kept keep y t k, only_twice (but (t ∷ [])) keep y) at j))
