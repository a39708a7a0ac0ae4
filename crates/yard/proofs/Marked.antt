-- Counting the representatives of marked points, and marking the points that open tracks touch. Assumes nothing.
use Rattle.std.proofs.Common.{◌≡◌, ℕ, ◌+◌, ◌<◌, ◌≤◌, Bool, true, false, not, ◌&&◌, ◌≢◌, ◌⊎◌, List, length, get_or, set, Decides, sym, ap, ◌∙◌, subst, inl, inr, ⊎_elim, arith}
use Rattle.std.proofs.lemmas.List.{get_or-set_same, get_or-set_other, length-set}
use Rattle.std.proofs.lemmas.Bool.{true≢false, cases_Bool, cases_eq, and_parts}
use Rattle.std.proofs.lemmas.Bool.Decides.{nat_tests, Decides-at, Decides-like}
use Rattle.network.specs.declared.track.Track.{Track}
use Rattle.graph.specs.Counts.{Count}
use Rattle.graph.specs.Groups.{Touched, LeadsGroup}
use Rattle.graph.specs.Representing.{Represents}
use Rattle.graph.specs.Yards.{Open, track}
use Rattle.graph.proofs.Counting.{count_like, one_more, none_more}
use Rattle.yard.specs.Partitions.{FirstOf}

module _ (reps : List ℕ) (marked : List Bool) where
  -- a marked point below k has the representative v
  abbrev Before : ℕ → ℕ → Type 0
  Before v k = (q : ℕ) × (q < k) × (get_or marked q false ≡ true) × (get_or reps q 0 ≡ v)

  abbrev pub Seen : List Bool → ℕ → Type 0
  Seen seen k = (v : ℕ) → v < 512 → Decides (get_or seen v false) (Before v k)

  module _ (seen : List Bool) (k : ℕ) (low : get_or reps k 0 < 512) (held : Seen seen k) where
    abbrev pub test : Bool
    test = get_or marked k false && not (get_or seen (get_or reps k 0) false)

    pub first_here : test ≡ true → FirstOf reps marked k
    first_here e =
        let parts = and_parts (get_or marked k false) (not (get_or seen (get_or reps k 0) false)) e in
        (parts.0, λ q h m same. let was = (held (get_or reps k 0) low).1 (q, h, m, same) in true≢false (sym parts.1 ∙ ap not was))

    pub not_first : test ≡ false → ¬ FirstOf reps marked k
    not_first e f =
        ⊎_elim
        (λ s. let b = (held (get_or reps k 0) low).0 s in f.1 b.0 b.1 b.2 b.3)
        (λ n. let m = f.0 in let yes-test : test ≡ true = grind (arith, nat_tests) in true≢false (sym yes-test ∙ e))
        (cases_Bool (get_or seen (get_or reps k 0) false))

    pub seen_first : length seen ≡ 512 → test ≡ true → Seen (set seen (get_or reps k 0) true) (k + 1)
    seen_first long e v h =
        let m = (and_parts (get_or marked k false) (not (get_or seen (get_or reps k 0) false)) e).0 in
        let room : get_or reps k 0 < length seen = omega arith in
        ⊎_elim
        (λ same. (λ _. (k, omega arith, m, sym same), λ _. ap (λ w. get_or (set seen (get_or reps k 0) true) w false) same ∙ get_or-set_same seen (get_or reps k 0) true false room))
        (λ ne.
        Decides-at _ _ (get_or-set_other seen (get_or reps k 0) v true false ne)
        (Decides-like _
        (λ b. (b.0, omega (arith, b.1), b.2, b.3))
        (λ b. ⊎_elim (λ at. absurd (ne (sym b.3 ∙ ap (λ w. get_or reps w 0) at))) (λ off. (b.0, omega (arith, b.1, off), b.2, b.3)) (cases_eq b.0 k))
        (held v h)))
        (cases_eq v (get_or reps k 0))

    pub seen_other : test ≡ false → Seen seen (k + 1)
    seen_other e v h = (
      λ s. let b = (held v h).0 s in (b.0, omega (arith, b.1), b.2, b.3),
      λ b. ⊎_elim
          (λ at. ap (λ w. get_or seen w false) (sym b.3 ∙ ap (λ w. get_or reps w 0) at) ∙ here (ap (λ w. get_or marked w false) (sym at) ∙ b.2))
          (λ off. (held v h).1 (b.0, omega (arith, b.1, off), b.2, b.3))
          (cases_eq b.0 k),
    )
      where
        here : get_or marked k false ≡ true → get_or seen (get_or reps k 0) false ≡ true
        here m = grind (arith, nat_tests)

  -- what is kept from point to point: those below k are seen, and the first among them counted
  abbrev pub Counted : List Bool → ℕ → ℕ → Type 0
  Counted seen n k = (n ≤ k) × (length seen ≡ 512) × Seen seen k × Count (FirstOf reps marked) k n

  module _ (seen : List Bool) (n k rep : ℕ) (is_marked : Bool) (low : get_or reps k 0 < 512) (at : rep ≡ get_or reps k 0) (told : is_marked ≡ get_or marked k false) (held : Counted seen n k) where
    pub counted_first : true ≡ (is_marked && not (get_or seen rep false)) → Counted (set seen rep true) (n + 1) (k + 1)
    counted_first e =
        let less = held.0 in
        let first : test seen k low held.2 ≡ true = rw (sym at, sym told) (sym e) in
        rw at (omega arith, length-set seen (get_or reps k 0) true ∙ held.1, seen_first seen k low held.2 held.1 first, one_more (FirstOf reps marked) k n held.3 (first_here seen k low held.2 first))

    pub counted_other : false ≡ (is_marked && not (get_or seen rep false)) → Counted seen n (k + 1)
    counted_other e =
        let less = held.0 in
        let other : test seen k low held.2 ≡ false = rw (sym at, sym told) (sym e) in
        (omega arith, held.1, seen_other seen k low held.2 other, none_more (FirstOf reps marked) k n held.3 (not_first seen k low held.2 other))

-- the first points of the representatives are the lowest points of the groups
pub group_count : (y : List Track) (reps : List ℕ) (marked : List Bool) (n : ℕ) → Represents reps y → ((p : ℕ) → p < 512 → Decides (get_or marked p false) (Touched y p)) → Count (FirstOf reps marked) 512 n → Count (LeadsGroup y) 512 n
group_count y reps marked n held told =
    count_like
    (λ p h f. ((told p h).0 f.0, λ q l t j. let low : q < 512 = omega arith in f.1 q l ((told q low).1 t) ((held q p low h).1 j)))
    (λ p h g. ((told p h).1 g.0, λ q l m same. let low : q < 512 = omega arith in g.1 q l ((told q low).0 m) ((held q p low h).0 same)))

module _ (y : List Track) where
  -- an open track below k touches p
  abbrev pub TouchedBelow : ℕ → ℕ → Type 0
  TouchedBelow k p = (t : ℕ) × (t < k) × Open y t × (((track y t).first ≡ p) ⊎ ((track y t).second ≡ p))

  abbrev pub Marks : List Bool → ℕ → Type 0
  Marks marked k = (p : ℕ) → p < 512 → Decides (get_or marked p false) (TouchedBelow k p)

  older : (k p : ℕ) → TouchedBelow k p → TouchedBelow (k + 1) p
  older k p b = (b.0, omega (arith, b.1), b.2, b.3)

  pub marks_none : (marked : List Bool) → ((p : ℕ) → p < 512 → get_or marked p false ≡ false) → Marks marked 0
  marks_none marked none p h = (λ e. absurd (true≢false (sym e ∙ none p h)), λ b. absurd (omega (arith, b.1)))

  pub marks_shut : (marked : List Bool) (k : ℕ) → (track y k).shut ≡ true → Marks marked k → Marks marked (k + 1)
  marks_shut marked k s held p h =
      Decides-like _ (older k p)
      (λ b. ⊎_elim (λ at. absurd (true≢false (sym s ∙ subst (Open y) at b.2))) (λ off. (b.0, omega (arith, b.1, off), b.2, b.3)) (cases_eq b.0 k))
      (held p h)

  module _ (marked : List Bool) (k : ℕ) (long : length marked ≡ 512) (o : Open y k) (a b : ℕ) (first : a ≡ (track y k).first) (second : b ≡ (track y k).second) (low : a < 512) (also : b < 512) (held : Marks marked k) where
    abbrev both : List Bool
    both = set (set marked a true) b true

    at_second : (p : ℕ) → p ≡ b → get_or both p false ≡ true
    at_second p e = let size = length-set marked a true in ap (λ q. get_or both q false) e ∙ get_or-set_same (set marked a true) b true false (omega arith)

    at_first : (p : ℕ) → p ≢ b → p ≡ a → get_or both p false ≡ true
    at_first p ne e = get_or-set_other (set marked a true) b p true false ne ∙ ap (λ q. get_or (set marked a true) q false) e ∙ get_or-set_same marked a true false (omega arith)

    elsewhere : (p : ℕ) → p ≢ b → p ≢ a → get_or both p false ≡ get_or marked p false
    elsewhere p nb na = get_or-set_other (set marked a true) b p true false nb ∙ get_or-set_other marked a p true false na

    new : (p : ℕ) → ((track y k).first ≡ p) ⊎ ((track y k).second ≡ p) → TouchedBelow (k + 1) p
    new p e = (k, omega arith, o, e)

    pub marks_open : Marks both (k + 1)
    marks_open p h =
        ⊎_elim
        (λ e. (λ _. new p (inr (sym second ∙ sym e)), λ _. at_second p e))
        (λ nb.
        ⊎_elim
        (λ e. (λ _. new p (inl (sym first ∙ sym e)), λ _. at_first p nb e))
        (λ na.
        Decides-at _ _ (elsewhere p nb na)
        (Decides-like _ (older k p)
        (λ t. ⊎_elim
        (λ at. absurd (⊎_elim (λ f. na (sym f ∙ ap (λ n. (track y n).first) at ∙ sym first)) (λ f. nb (sym f ∙ ap (λ n. (track y n).second) at ∙ sym second)) t.3))
        (λ off. (t.0, omega (arith, t.1, off), t.2, t.3))
        (cases_eq t.0 k))
        (held p h)))
        (cases_eq p a))
        (cases_eq p b)
