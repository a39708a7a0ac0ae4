-- The yard of some tracks of y: its links, and what one track more joins. Assumes nothing.
use Rattle.std.proofs.Common.{◌≡◌, ℕ, zero, suc, Bool, true, false, cond, ◌&&◌, ◌⊎◌, List, [], ◌∷◌, length, refl, ap, subst, ap₂, inl, inr, ⊎_elim}
use mathlib.Core.Logic.{⊎_map}
use Rattle.std.proofs.lemmas.Bool.{true≢false, cases_Bool}
use Rattle.network.specs.declared.track.Track.{Track}
use Rattle.graph.specs.Yards.{Link, Joined, Ends, Open, track, only, closed, none}
use Rattle.graph.proofs.Joins.{link, trans, turn, more, Bridged, one_more, one_more_back}

cond_same : {A : Type 0} (b : Bool) (x : A) → x ≡ cond b x x
cond_same true x = refl
cond_same false x = refl

pub track_only : (keep : ℕ → Bool) (y : List Track) (t : ℕ) → track (only keep y) t ≡ cond (keep t) (track y t) (closed (track y t))
track_only keep [] t = cond_same (keep t) none
track_only keep (x ∷ y) zero = refl
track_only keep (x ∷ y) (suc t) = track_only (λ u. keep (suc u)) y t

pub length_only : (keep : ℕ → Bool) (y : List Track) → length (only keep y) ≡ length y
length_only keep [] = refl
length_only keep (x ∷ y) = ap suc (length_only (λ t. keep (suc t)) y)

closed_twice : (k l : Bool) (x : Track) → cond k (cond l x (closed x)) (closed (cond l x (closed x))) ≡ cond (k && l) x (closed x)
closed_twice true l x = refl
closed_twice false true x = refl
closed_twice false false x = refl

pub only_twice : (keep keep' : ℕ → Bool) (y : List Track) → only keep (only keep' y) ≡ only (λ t. keep t && keep' t) y
only_twice keep keep' [] = refl
only_twice keep keep' (x ∷ y) = ap₂ ◌∷◌ (closed_twice (keep 0) (keep' 0) x) (only_twice (λ t. keep (suc t)) (λ t. keep' (suc t)) y)

module _ (keep : ℕ → Bool) (y : List Track) (t : ℕ) where
  pub track_kept : keep t ≡ true → track (only keep y) t ≡ track y t
  track_kept k = rw (track_only keep y t, k)

  track_cut : keep t ≡ false → track (only keep y) t ≡ closed (track y t)
  track_cut n = rw (track_only keep y t, n)

  pub open_only : Open (only keep y) t → (keep t ≡ true) × Open y t
  open_only o = ⊎_elim (λ k. (k, rw (track_kept k) at o)) (λ n. absurd (true≢false (rw (track_cut n) at o))) (cases_Bool (keep t))

  pub only_open : keep t ≡ true → Open y t → Open (only keep y) t
  only_open k o = rw (track_kept k) o

-- the links of `only keep y`: open tracks of y that are kept
pub record Kept (keep : ℕ → Bool) (y : List Track) (a b : ℕ) : Type 0 where
  pub number : ℕ
  pub kept : keep number ≡ true
  pub is_open : Open y number
  pub ends : Ends (track y number) a b

module _ (keep : ℕ → Bool) (y : List Track) {a b : ℕ} where
  pub link_kept : Link (only keep y) a b → Kept keep y a b
  link_kept l =
      let o = open_only keep y l.number l.is_open in
      record { number = l.number; kept = o.0; is_open = o.1; ends = rw (track_kept keep y l.number o.0) at l.ends }

  pub kept_link : Kept keep y a b → Link (only keep y) a b
  kept_link l = record { number = l.number; is_open = only_open keep y l.number l.kept l.is_open; ends = rw (track_kept keep y l.number l.kept) l.ends }

  pub kept_in : Kept keep y a b → Link y a b
  kept_in l = record { number = l.number; is_open = l.is_open; ends = l.ends }

  pub only_link : Kept keep y a b → Joined (only keep y) a b
  only_link l = link (kept_link l)

-- a track of y joins its ends in a part of y that keeps it
pub across_only : (keep : ℕ → Bool) (y : List Track) (t : ℕ) → keep t ≡ true → Open y t → Joined (only keep y) (track y t).first (track y t).second
across_only keep y t k o = only_link keep y (record { number = t; kept = k; is_open = o; ends = inl (refl, refl) })

pub only_within : (keep : ℕ → Bool) (y : List Track) {a b : ℕ} → Joined (only keep y) a b → Joined y a b
only_within keep y = more (λ c d l. link (kept_in keep y (link_kept keep y l)))

pub all_only : (keep : ℕ → Bool) (y : List Track) {a b : ℕ} → ((t : ℕ) → Open y t → keep t ≡ true) → Joined y a b → Joined (only keep y) a b
all_only keep y all = more (λ c d l. only_link keep y (record { number = l.number; kept = all l.number l.is_open; is_open = l.is_open; ends = l.ends }))

pub only_more_open : (keep keep' : ℕ → Bool) (y : List Track) {a b : ℕ} → ((t : ℕ) → Open y t → keep t ≡ true → keep' t ≡ true) → Joined (only keep y) a b → Joined (only keep' y) a b
only_more_open keep keep' y w = more (λ c d l. let k = link_kept keep y l in only_link keep' y (record { number = k.number; kept = w k.number k.is_open k.kept; is_open = k.is_open; ends = k.ends }))

pub only_more : (keep keep' : ℕ → Bool) (y : List Track) {a b : ℕ} → ((t : ℕ) → keep t ≡ true → keep' t ≡ true) → Joined (only keep y) a b → Joined (only keep' y) a b
only_more keep keep' y w = only_more_open keep keep' y (λ t _. w t)

-- keep' keeps at most the track t more than keep
module _ (keep keep' : ℕ → Bool) (y : List Track) (t : ℕ) (split : (u : ℕ) → keep' u ≡ true → (keep u ≡ true) ⊎ (u ≡ t)) where
  split_link : (a b : ℕ) → Link (only keep' y) a b → Joined (only keep y) a b ⊎ Ends (track y t) a b
  split_link a b l =
      let k = link_kept keep' y l in
      ⊎_map
      (λ h. only_link keep y (record { number = k.number; kept = h; is_open = k.is_open; ends = k.ends }))
      (λ e. subst (λ (u : ℕ). Ends (track y u) a b) e k.ends)
      (split k.number k.kept)

  pub only_one_more : {a b : ℕ} → Joined (only keep' y) a b → Bridged (only keep y) (track y t).first (track y t).second a b
  only_one_more = one_more (track y t) split_link

  -- where the ends of t are joined without it, it joins nothing more
  pub bypass : {a b : ℕ} → Joined (only keep y) (track y t).first (track y t).second → Joined (only keep' y) a b → Joined (only keep y) a b
  bypass s j = one_more_back (λ c d l. link l) s (only_one_more j)

-- EXCHANGE: t's ends are joined through u alone, so u's ends are joined through t
pub exchange : (keep keep' keep'' : ℕ → Bool) (y : List Track) (t u : ℕ) → Open y t → ((w : ℕ) → keep' w ≡ true → (keep w ≡ true) ⊎ (w ≡ u)) → ((w : ℕ) → keep w ≡ true → keep'' w ≡ true) → keep'' t ≡ true → ¬ Joined (only keep y) (track y t).first (track y t).second → Joined (only keep' y) (track y t).first (track y t).second → Joined (only keep'' y) (track y u).first (track y u).second
exchange keep keep' keep'' y t u o split wider k n j = go (only_one_more keep keep' y u split j)
  where
    wide : {a b : ℕ} → Joined (only keep y) a b → Joined (only keep'' y) a b
    wide = only_more keep keep'' y wider

    by_t : Joined (only keep'' y) (track y t).first (track y t).second
    by_t = across_only keep'' y t k o

    go : Bridged (only keep y) (track y u).first (track y u).second (track y t).first (track y t).second → Joined (only keep'' y) (track y u).first (track y u).second
    go (inl i) = absurd (n i)
    go (inr (inl h)) = trans (trans (turn (wide h.0)) by_t) (turn (wide h.1))
    go (inr (inr h)) = trans (trans (wide h.1) (turn by_t)) (wide h.0)
