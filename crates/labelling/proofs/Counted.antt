-- The degrees at the two ends of a track of the forest: one more, and one fewer. Assumes nothing.
use Rattle.std.proofs.Common.{◌≡◌, ℕ, ◌+◌, ◌-◌, ◌<◌, ◌≤◌, Bool, true, false, ◌&&◌, ◌||◌, eqb, ◌≢◌, ◌⊎◌, List, length, set, sym, ap, ◌∙◌, subst, inl, inr, ⊎_elim, arith, length-set}
use lib.Bits.{bit_xor}
use Rattle.std.proofs.lemmas.List.{get_or-set_same, get_or-set_other}
use Rattle.std.proofs.lemmas.Bool.{cases_eq}
use Rattle.network.specs.Tracks.{Points}
use Rattle.network.specs.declared.track.Track.{Track}
use Rattle.graph.specs.Degrees.{flagged, left_at, how_many, xor_of}
use Rattle.graph.specs.Forests.{InForest, Touches}
use Rattle.graph.specs.Yards.{track}
use Rattle.graph.proofs.Degrees.{many_le, picked_more, picked_same, picked_like, picked_off}
use Rattle.graph.proofs.Fronts.{open_within}
use Rattle.graph.proofs.Peeled.{two_ends, left_here, not_here, gone_here}
use Rattle.labelling.specs.Degrees.{degree_at, Degrees}
use Rattle.labelling.specs.declared.degrees.Degree.{Degree}
use Rattle.labelling.specs.declared.ends.End.TheVariants.{First, Second}
use Rattle.labelling.proofs.Points.{end_low}

-- a degree with the track t more, and with it fewer
abbrev pub more : ℕ → Degree → Degree
more t d = record { count = d.count + 1; numbers = bit_xor d.numbers t }

abbrev pub fewer : ℕ → Degree → Degree
fewer t d = record { count = d.count - 1; numbers = bit_xor d.numbers t }

-- a list in which what stands at the places a and b is changed by f
abbrev pub at_both : (Degree → Degree) → ℕ → ℕ → List Degree → List Degree
at_both f a b l = let half = set l a (f (degree_at l a)) in set half b (f (degree_at half b))

-- changed at one place and then at the other
pub both_changed : (f : Degree → Degree) (a b : ℕ) (l m k : List Degree) → m ≡ set l a (f (degree_at l a)) → k ≡ set m b (f (degree_at m b)) → k ≡ at_both f a b l
both_changed f a b l m k e g = g ∙ ap (λ h. set h b (f (degree_at h b))) e

module _ (f : Degree → Degree) (l l' : List Degree) (a b : ℕ) (apart : a ≢ b) (low-a : a < length l) (low-b : b < length l) (is : l' ≡ at_both f a b l) where
  abbrev half : List Degree
  half = set l a (f (degree_at l a))

  pub moved : (p : ℕ) → (p ≡ a) ⊎ (p ≡ b) → degree_at l' p ≡ f (degree_at l p)
  moved p (inl e) =
      ap (degree_at l') e
      ∙ ap (λ k. degree_at k a) is
      ∙ get_or-set_other half b a (f (degree_at half b)) _ apart
      ∙ get_or-set_same l a (f (degree_at l a)) _ low-a
      ∙ ap (λ q. f (degree_at l q)) (sym e)
  moved p (inr e) =
      ap (degree_at l') e
      ∙ ap (λ k. degree_at k b) is
      ∙ get_or-set_same half b (f (degree_at half b)) _ (omega (arith, length-set l a (f (degree_at l a))))
      ∙ ap f (get_or-set_other l a b (f (degree_at l a)) _ (λ g. apart (sym g)))
      ∙ ap (λ q. f (degree_at l q)) (sym e)

  pub stayed : (p : ℕ) → p ≢ a → p ≢ b → degree_at l' p ≡ degree_at l p
  stayed p n m = ap (λ k. degree_at k p) is ∙ get_or-set_other half b p (f (degree_at half b)) _ m ∙ get_or-set_other l a p (f (degree_at l a)) _ n

pub count_le : (y : List Track) (left : List Bool) (l : List Degree) (n p : ℕ) → Degrees y left l n → p < 512 → (degree_at l p).count ≤ n
count_le y left l n p d h = let e = (d p h).0 in omega (arith, many_le (left_at y left p) n)

-- a track of the forest that is left, and what stands at its ends
module _ (y : List Track) (points : Points y) (left : List Bool) (t : ℕ) (flag : flagged left t ≡ true) (forest : InForest y t) (l : List Degree) (whole : length l ≡ 512) where
  abbrev a : ℕ
  a = (track y t).first

  abbrev b : ℕ
  b = (track y t).second

  pub apart : a ≢ b
  apart = two_ends y t forest

  pub there : t < length y
  there = open_within y t forest.0

  pub first_low : a < 512
  first_low = end_low y First t there points

  pub second_low : b < 512
  second_low = end_low y Second t there points

  -- what is changed at one end does not stand at the other
  pub other_kept : (m : List Degree) (d : Degree) → m ≡ set l a d → degree_at m b ≡ degree_at l b
  other_kept m d e = ap (λ k. degree_at k b) e ∙ get_or-set_other l a b d _ (λ g. apart (sym g))

  end_or : (p : ℕ) → ((p ≡ a) ⊎ (p ≡ b)) ⊎ ((p ≢ a) × (p ≢ b))
  end_or p = ⊎_elim (λ e. inl (inl e)) (λ n. ⊎_elim (λ e. inl (inr e)) (λ m. inr (n, m)) (cases_eq p b)) (cases_eq p a)

  touches : (p : ℕ) → (p ≡ a) ⊎ (p ≡ b) → Touches y t p
  touches p (inl e) = inl (sym e)
  touches p (inr e) = inr (sym e)

  not_touches : (p : ℕ) → p ≢ a → p ≢ b → ¬ Touches y t p
  not_touches p n m (inl e) = n (sym e)
  not_touches p n m (inr e) = m (sym e)

  -- the next track is counted at both its ends
  pub more_degrees : (l' : List Degree) → l' ≡ at_both (more t) a b l → Degrees y left l t → Degrees y left l' (t + 1)
  more_degrees l' is d p h =
      ⊎_elim
      (λ at.
      let e = moved (more t) l l' a b apart (omega (arith, first_low)) (omega (arith, second_low)) is p at in
      let w = picked_more (left_at y left p) t (left_here y left p t flag (touches p at)) in
      (ap (λ k. k.count) e ∙ ap (λ k. k + 1) (d p h).0 ∙ sym w.0, ap (λ k. k.numbers) e ∙ ap (λ x. bit_xor x t) (d p h).1 ∙ sym w.1))
      (λ off.
      let e = stayed (more t) l l' a b apart (omega (arith, first_low)) (omega (arith, second_low)) is p off.0 off.1 in
      let w = picked_same (left_at y left p) t (not_here y left p t (not_touches p off.0 off.1)) in
      (ap (λ k. k.count) e ∙ (d p h).0 ∙ sym w.0, ap (λ k. k.numbers) e ∙ (d p h).1 ∙ sym w.1))
      (end_or p)

  module _ (room : t < length left) (n : ℕ) (low : t < n) (d : Degrees y left l n) where
    kept : (u : ℕ) → u ≢ t → (p : ℕ) → left_at y (set left t false) p u ≡ left_at y left p u
    kept u ne p = ap (λ f. f && (eqb (track y u).first p || eqb (track y u).second p)) (get_or-set_other left t u false false ne)

    without : (p : ℕ) → (p ≡ a) ⊎ (p ≡ b) → (how_many (left_at y left p) n ≡ how_many (left_at y (set left t false) p) n + 1) × (xor_of (left_at y (set left t false) p) n ≡ bit_xor (xor_of (left_at y left p) n) t)
    without p at =
        picked_off (left_at y left p) (left_at y (set left t false) p) t (left_here y left p t flag (touches p at)) (gone_here y (set left t false) p t (get_or-set_same left t false false room)) (λ u ne. kept u ne p) n low

    -- there is one to take off
    pub some_at : (p : ℕ) → p < 512 → (p ≡ a) ⊎ (p ≡ b) → 1 ≤ (degree_at l p).count
    some_at p h at = omega (arith, (without p at).0, (d p h).0)

    pub fewer_degrees : (l' : List Degree) → l' ≡ at_both (fewer t) a b l → Degrees y (set left t false) l' n
    fewer_degrees l' is p h =
        ⊎_elim
        (λ at.
        let e = moved (fewer t) l l' a b apart (omega (arith, first_low)) (omega (arith, second_low)) is p at in
        let w = without p at in
        (omega (arith, ap (λ k. k.count) e, (d p h).0, w.0), ap (λ k. k.numbers) e ∙ ap (λ x. bit_xor x t) (d p h).1 ∙ sym w.1))
        (λ off.
        let e = stayed (fewer t) l l' a b apart (omega (arith, first_low)) (omega (arith, second_low)) is p off.0 off.1 in
        let w = picked_like (left_at y left p) (left_at y (set left t false) p) n (λ u lt. ⊎_elim (λ same. not_here y (set left t false) p u (λ q. not_touches p off.0 off.1 (subst (λ (v : ℕ). Touches y v p) same q)) ∙ sym (not_here y left p u (λ q. not_touches p off.0 off.1 (subst (λ (v : ℕ). Touches y v p) same q)))) (λ ne. kept u ne p) (cases_eq u t)) in
        (ap (λ k. k.count) e ∙ (d p h).0 ∙ sym w.0, ap (λ k. k.numbers) e ∙ (d p h).1 ∙ sym w.1))
        (end_or p)
