-- The group of a touched point has one lowest point. Assumes nothing.
use Rattle.std.proofs.Common.{◌≡◌, ℕ, zero, suc, ◌<◌, Bool, false, not, ◌&&◌, ◌||◌, eqb, ◌≢◌, ◌⊎◌, List, [], ◌∷◌, Decides, refl, inl, inr, ⊎_elim, arith}
use Rattle.std.proofs.lemmas.Bool.{true≢false, cases_Bool, cases_lt, cases_eq}
use Rattle.std.proofs.lemmas.Bool.Decides.{Decides-and, Decides-or, Decides-eqb, Decides-like, not_from_Decides}
use Rattle.network.specs.declared.track.Track.{Track}
use Rattle.graph.specs.Yards.{Joined, here, along, track, Open}
use Rattle.graph.specs.Groups.{Touched, LeadsGroup}
use Rattle.graph.proofs.Joins.{trans, turn}
use Rattle.graph.proofs.Decide.{joined_or}
use Rattle.graph.proofs.Tests.{decides_open}
use Rattle.graph.proofs.Counting.{least}

-- the track x is open and touches p
abbrev pub touches? : Track → ℕ → Bool
touches? x p = not x.shut && (eqb x.first p || eqb x.second p)

abbrev pub touched? : List Track → ℕ → Bool
touched? [] p = false
touched? (x ∷ y) p = touches? x p || touched? y p

decides_first : (x : Track) (y : List Track) (p : ℕ) → Decides (touches? x p) (Open (x ∷ y) 0 × ((x.first ≡ p) ⊎ (x.second ≡ p)))
decides_first x y p = Decides-and _ _ (decides_open (x ∷ y) 0) (Decides-or _ _ (Decides-eqb x.first p) (Decides-eqb x.second p))

touched_first : (x : Track) (y : List Track) (p : ℕ) → (Open (x ∷ y) 0 × ((x.first ≡ p) ⊎ (x.second ≡ p))) ⊎ Touched y p → Touched (x ∷ y) p
touched_first x y p (inl h) = record { number = 0; is_open = h.0; at_end = h.1 }
touched_first x y p (inr h) = record { number = suc h.number; is_open = h.is_open; at_end = h.at_end }

touched_split : (x : Track) (y : List Track) (p : ℕ) → Touched (x ∷ y) p → (Open (x ∷ y) 0 × ((x.first ≡ p) ⊎ (x.second ≡ p))) ⊎ Touched y p
touched_split x y p h = go h.number h.is_open h.at_end
  where
    go : (t : ℕ) → Open (x ∷ y) t → ((track (x ∷ y) t).first ≡ p) ⊎ ((track (x ∷ y) t).second ≡ p) → (Open (x ∷ y) 0 × ((x.first ≡ p) ⊎ (x.second ≡ p))) ⊎ Touched y p
    go zero o e = inl (o, e)
    go (suc t) o e = inr (record { number = t; is_open = o; at_end = e })

pub decides_touched : (y : List Track) (p : ℕ) → Decides (touched? y p) (Touched y p)
decides_touched [] p = (λ e. absurd (true≢false (cc)), λ h. absurd (true≢false h.is_open))
decides_touched (x ∷ y) p = Decides-like _ (touched_first x y p) (touched_split x y p) (Decides-or _ _ (decides_first x y p) (decides_touched y p))

-- a point that is joined to another is touched
pub joined_touched : {y : List Track} {a b : ℕ} → Joined y a b → a ≢ b → Touched y b
joined_touched here ne = absurd (ne refl)
joined_touched (along j l) ne = record { number = l.number; is_open = l.is_open; at_end = ⊎_elim (λ e. inr e.1) (λ e. inl e.0) l.ends }

module _ (y : List Track) where
  pub touched_or : (p : ℕ) → Touched y p ⊎ (¬ Touched y p)
  touched_or p = ⊎_elim (λ h. inl ((decides_touched y p).0 h)) (λ n. inr (not_from_Decides _ (decides_touched y p) n)) (cases_Bool (touched? y p))

  abbrev Fellow : ℕ → ℕ → Type 0
  Fellow p q = Touched y q × Joined y q p

  fellow_or : (p q : ℕ) → Fellow p q ⊎ (¬ Fellow p q)
  fellow_or p q =
      ⊎_elim
      (λ t. ⊎_elim (λ j. inl (t, j)) (λ n. inr (λ h. n h.1)) (joined_or y q p))
      (λ n. inr (λ h. n h.0))
      (touched_or q)

  pub some_lead : (p : ℕ) → Touched y p → (q : ℕ) × LeadsGroup y q × Joined y q p
  some_lead p t =
      let l = least (Fellow p) (fellow_or p) p (t, here) in
      (l.number, (l.has.0, λ q h touched j. l.lowest q h (touched, trans j l.has.1)), l.has.1)

  pub one_lead : (p q r : ℕ) → LeadsGroup y q → LeadsGroup y r → Joined y q p → Joined y r p → q ≡ r
  one_lead p q r a b j k =
      ⊎_elim
      (λ less. absurd (b.1 q less a.0 (trans j (turn k))))
      (λ le. ⊎_elim (λ e. e) (λ ne. let more : r < q = omega arith in absurd (a.1 r more b.0 (trans k (turn j)))) (cases_eq q r))
      (cases_lt q r)
