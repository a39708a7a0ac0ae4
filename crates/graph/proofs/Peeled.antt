-- What is left of a forest: the tests at a point, and that nothing is left where no track is alone. Assumes nothing.
use Rattle.std.proofs.Common.{◌≡◌, ℕ, ◌<◌, Bool, true, false, ◌||◌, eqb, ◌≢◌, List, length, Decides, subst, ⊎_elim, arith}
use Rattle.std.proofs.lemmas.Bool.{and_parts, and_from, and_left, and_right, false_from_ne_true}
use Rattle.std.proofs.lemmas.Bool.Decides.{Decides-or, Decides-eqb}
use Rattle.network.specs.declared.track.Track.{Track}
use Rattle.graph.specs.Yards.{track, Joined, here}
use Rattle.graph.specs.Forests.{InForest, Touches}
use Rattle.graph.specs.Degrees.{flagged, Alone, NoneAlone, left_at, how_many, xor_of}
use Rattle.graph.proofs.Degrees.{single, one_single}
use Rattle.graph.proofs.Fronts.{open_within}
use Rattle.graph.proofs.Leaves.{leaf}

-- a track of the forest has two ends
pub two_ends : (y : List Track) (t : ℕ) → InForest y t → (track y t).first ≢ (track y t).second
two_ends y t f e = f.1 (subst (Joined _ (track y t).first) e here)

module _ (y : List Track) (left : List Bool) (p : ℕ) where
  decides_touches : (t : ℕ) → Decides (eqb (track y t).first p || eqb (track y t).second p) (Touches y t p)
  decides_touches t = Decides-or _ _ (Decides-eqb _ p) (Decides-eqb _ p)

  pub left_here : (t : ℕ) → flagged left t ≡ true → Touches y t p → left_at y left p t ≡ true
  left_here t f h = and_from _ _ f ((decides_touches t).1 h)

  pub not_here : (t : ℕ) → ¬ Touches y t p → left_at y left p t ≡ false
  not_here t n = and_right _ _ (false_from_ne_true _ (λ e. n ((decides_touches t).0 e)))

  pub gone_here : (t : ℕ) → flagged left t ≡ false → left_at y left p t ≡ false
  gone_here t f = and_left _ _ f

  module _ (forest : (t : ℕ) → flagged left t ≡ true → InForest y t) where
    low : (t : ℕ) → flagged left t ≡ true → t < length y
    low t f = open_within y t (forest t f).0

    -- where one is left, it is alone, and its number is the exclusive or
    pub alone_from : how_many (left_at y left p) (length y) ≡ 1 → Alone y left p (xor_of (left_at y left p) (length y))
    alone_from e =
        let s = single _ (length y) e in
        let w = and_parts _ _ s.picked in
        record { flag = w.0; touches = (decides_touches _).0 w.1; only = λ u f h. s.only u (low u f) (left_here u f h) }

    pub one_from : (t : ℕ) → Alone y left p t → how_many (left_at y left p) (length y) ≡ 1
    one_from t a = one_single _ (length y) t (record {
      low = low t a.flag;
      picked = left_here t a.flag a.touches;
      only = λ u h q. let w = and_parts _ _ q in a.only u w.0 ((decides_touches u).0 w.1);
    })

-- where every flagged track is of the forest and none is alone at a point, none is flagged
pub none_left : (y : List Track) (left : List Bool) → ((t : ℕ) → flagged left t ≡ true → InForest y t) → ((t : ℕ) → InForest y t → ((track y t).first < 512) × ((track y t).second < 512))
    → ((p : ℕ) → p < 512 → NoneAlone y left p) → (t : ℕ) → flagged left t ≡ false
none_left y left forest points quiet t =
    false_from_ne_true _ (λ flag.
    let l = leaf y (flagged left) forest t flag 0 in
    let w = points l.number (forest l.number l.kept) in
    let low : l.point < 512 = ⊎_elim (λ e. omega (arith, w.0, e)) (λ e. omega (arith, w.1, e)) l.touches in
    quiet l.point low l.number (record { flag = l.kept; touches = l.touches; only = l.alone }))
