-- A test that computes whether two points are joined: a representative for each point, merged track by track. Assumes nothing.
use Rattle.std.proofs.Common.{◌≡◌, ℕ, zero, suc, Bool, true, false, cond, eqb, ◌⊎◌, List, [], ◌∷◌, Decides, sym, refl, ◌∙◌, subst, inl, inr, ⊎_elim, arith}
use mathlib.Core.Logic.{⊎_map, ⊎_swap}
use Rattle.std.proofs.lemmas.Bool.{true≢false, cases_Bool}
use Rattle.std.proofs.lemmas.Bool.Decides.{nat_tests, Decides-eqb, Decides-like, not_from_Decides}
use Rattle.network.specs.declared.track.Track.{Track}
use Rattle.graph.specs.Yards.{Link, Joined, here, along, Ends, Open, track}
use Rattle.graph.proofs.Joins.{link, more, Within, Bridged, one_more, one_more_back, across}

-- the representatives once v stands for u as well
abbrev pub merged : ℕ → ℕ → (ℕ → ℕ) → ℕ → ℕ
merged u v r p = let q = r p in cond (eqb q u) v q

abbrev absorb : Track → (ℕ → ℕ) → ℕ → ℕ
absorb x r = cond x.shut r (merged (r x.first) (r x.second) r)

-- the representative of a point
abbrev pub rep : List Track → ℕ → ℕ
rep [] = λ p. p
rep (x ∷ y) = absorb x (rep y)

abbrev pub joined? : List Track → ℕ → ℕ → Bool
joined? y a b = let r = rep y in eqb (r a) (r b)

-- the links of x ∷ y are those of y and, where it is open, of x
link_tail : {y : List Track} (x : Track) (a b : ℕ) → Link y a b → Link (x ∷ y) a b
link_tail x a b l = record { number = suc l.number; is_open = l.is_open; ends = l.ends }

link_cons : (x : Track) (y : List Track) (a b : ℕ) → Link (x ∷ y) a b → Link y a b ⊎ ((x.shut ≡ false) × Ends x a b)
link_cons x y a b l = go l.number l.is_open l.ends
  where
    go : (t : ℕ) → Open (x ∷ y) t → Ends (track (x ∷ y) t) a b → Link y a b ⊎ ((x.shut ≡ false) × Ends x a b)
    go zero o e = inr (o, e)
    go (suc t) o e = inl (record { number = t; is_open = o; ends = e })

abbrev Meet : ℕ → ℕ → ℕ → ℕ → Type 0
Meet u v p q = (p ≡ q) ⊎ (((p ≡ u) × (v ≡ q)) ⊎ ((p ≡ v) × (u ≡ q)))

meet : (u v p q : ℕ) → cond (eqb p u) v p ≡ cond (eqb q u) v q → Meet u v p q
meet u v p q h = grind (arith, nat_tests)

meet_back : (u v p q : ℕ) → Meet u v p q → cond (eqb p u) v p ≡ cond (eqb q u) v q
meet_back u v p q h = grind (arith, nat_tests)

-- it does not matter which of the two stands for both
pub merged_turn : (u v : ℕ) (r : ℕ → ℕ) (a b : ℕ) → merged u v r a ≡ merged u v r b → merged v u r a ≡ merged v u r b
merged_turn u v r a b h = meet_back v u (r a) (r b) (⊎_map (λ e. e) ⊎_swap (meet u v (r a) (r b) h))

-- the representatives of points in P agree just where the points are joined
abbrev pub Agree : (ℕ → Type 0) → (ℕ → ℕ) → List Track → Type 0
Agree P r y = (a b : ℕ) → P a → P b → (r a ≡ r b → Joined y a b) × (Joined y a b → r a ≡ r b)

-- z is y and the track x more, whose ends are in P: merge the representatives of its ends
module _ (P : ℕ → Type 0) (r : ℕ → ℕ) {y z : List Track} (x : Track) (f : P x.first) (s : P x.second) (held : Agree P r y) (grown : Within y z) (new : Joined z x.first x.second) (split : (c d : ℕ) → Link z c d → Joined y c d ⊎ Ends x c d) where
  bridge_of : (a b : ℕ) → P a → P b → Meet (r x.first) (r x.second) (r a) (r b) → Bridged y x.first x.second a b
  bridge_of a b p q (inl h) = inl ((held a b p q).0 h)
  bridge_of a b p q (inr (inl h)) = inr (inl ((held a _ p f).0 h.0, (held _ b s q).0 h.1))
  bridge_of a b p q (inr (inr h)) = inr (inr ((held a _ p s).0 h.0, (held _ b f q).0 h.1))

  meet_of : (a b : ℕ) → P a → P b → Bridged y x.first x.second a b → Meet (r x.first) (r x.second) (r a) (r b)
  meet_of a b p q (inl j) = inl ((held a b p q).1 j)
  meet_of a b p q (inr (inl h)) = inr (inl ((held a _ p f).1 h.0, (held _ b s q).1 h.1))
  meet_of a b p q (inr (inr h)) = inr (inr ((held a _ p s).1 h.0, (held _ b f q).1 h.1))

  pub agree_more : Agree P (merged (r x.first) (r x.second) r) z
  agree_more a b p q =
      (λ h. one_more_back grown new (bridge_of a b p q (meet _ _ _ _ h)), λ j. meet_back _ _ _ _ (meet_of a b p q (one_more x split j)))

-- a yard with the same links
pub agree_same : (P : ℕ → Type 0) (r : ℕ → ℕ) {y z : List Track} → Within y z → Within z y → Agree P r y → Agree P r z
agree_same P r v w held a b p q = (λ h. more v ((held a b p q).0 h), λ j. (held a b p q).1 (more w j))

abbrev Any : ℕ → Type 0
Any _ = Unit {0}

agree_cons : (x : Track) (y : List Track) → Agree Any (rep y) y → Agree Any (rep (x ∷ y)) (x ∷ y)
agree_cons x y held =
    ⊎_elim
    (λ e. subst (λ (r : ℕ → ℕ). Agree Any r (x ∷ y)) (sym (rep_is true e)) (agree_same Any (rep y) grown (λ c d l. ⊎_elim link (λ h. absurd (true≢false (sym e ∙ h.0))) (link_cons x y c d l)) held))
    (λ e. subst (λ (r : ℕ → ℕ). Agree Any r (x ∷ y)) (sym (rep_is false e)) (agree_more Any (rep y) x tt tt held grown (across (x ∷ y) 0 e) (λ c d l. ⊎_map link (λ h. h.1) (link_cons x y c d l))))
    (cases_Bool x.shut)
  where
    rep_is : (b : Bool) → x.shut ≡ b → rep (x ∷ y) ≡ cond b (rep y) (merged (rep y x.first) (rep y x.second) (rep y))
    rep_is b e = rw e

    grown : Within y (x ∷ y)
    grown c d l = link (link_tail x c d l)

pub from_nothing : (a b : ℕ) → Joined [] a b → a ≡ b
from_nothing a b here = refl
from_nothing a b (along j l) = absurd (true≢false l.is_open)

agree : (y : List Track) → Agree Any (rep y) y
agree [] a b p q = (λ h. subst (Joined [] a) h here, from_nothing a b)
agree (x ∷ y) a b p q = agree_cons x y (agree y) a b p q

pub decides_joined : (y : List Track) (a b : ℕ) → Decides (joined? y a b) (Joined y a b)
decides_joined y a b = Decides-like (joined? y a b) (agree y a b tt tt).0 (agree y a b tt tt).1 (Decides-eqb (rep y a) (rep y b))

pub joined_or : (y : List Track) (a b : ℕ) → Joined y a b ⊎ (¬ Joined y a b)
joined_or y a b = ⊎_elim (λ h. inl ((decides_joined y a b).0 h)) (λ n. inr (not_from_Decides _ (decides_joined y a b) n)) (cases_Bool (joined? y a b))
