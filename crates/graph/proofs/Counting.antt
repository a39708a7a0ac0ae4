-- Counts: there is one, it is at most the bound, and equal properties have equal counts. Assumes nothing.
use Rattle.std.proofs.Common.{◌≡◌, ℕ, zero, suc, ◌+◌, ◌<◌, ◌≤◌, min, ◌≢◌, ◌⊎◌, sym, refl, ap, subst, ap₂, inl, inr, ⊎_elim, add-one, arith}
use Rattle.std.proofs.lemmas.Bool.{cases_eq, cases_lt}
use Rattle.graph.specs.Counts.{Count, start, one, other, PairCount, no_pairs, more_pairs}

pub count_same : {P : ℕ → Type 0} {n j k : ℕ} → Count P n j → Count P n k → j ≡ k
count_same start start = refl
count_same (one a c) (one b d) = ap suc (count_same a b)
count_same (one a c) (other b d) = absurd (d c)
count_same (other a c) (one b d) = absurd (c d)
count_same (other a c) (other b d) = count_same a b

pub pair_count_same : {P : ℕ → ℕ → Type 0} {n j k : ℕ} → PairCount P n j → PairCount P n k → j ≡ k
pair_count_same no_pairs no_pairs = refl
pair_count_same (more_pairs a c) (more_pairs b d) = ap₂ ◌+◌ (pair_count_same a b) (count_same c d)

-- one number more, as code counts it
pub one_more : (P : ℕ → Type 0) (n k : ℕ) → Count P n k → P n → Count P (n + 1) (k + 1)
one_more P n k c p = subst (λ a. Count P a (k + 1)) (sym (add-one n)) (subst (Count P (suc n)) (sym (add-one k)) (one c p))

pub none_more : (P : ℕ → Type 0) (n k : ℕ) → Count P n k → ¬ P n → Count P (n + 1) k
none_more P n k c p = subst (λ a. Count P a k) (sym (add-one n)) (other c p)

-- properties that are equal below the bound have equal counts
pub count_like : {P Q : ℕ → Type 0} {n k : ℕ} → ((m : ℕ) → m < n → P m → Q m) → ((m : ℕ) → m < n → Q m → P m) → Count P n k → Count Q n k
count_like f g start = start
count_like f g (one {n = n} a p) = one (count_like (λ m h. f m (omega arith)) (λ m h. g m (omega arith)) a) (f n (omega arith) p)
count_like f g (other {n = n} a p) = other (count_like (λ m h. f m (omega arith)) (λ m h. g m (omega arith)) a) (λ q. p (g n (omega arith) q))

pub pair_count_like : {P Q : ℕ → ℕ → Type 0} {n k : ℕ} → ((u t : ℕ) → u < t → t < n → P u t → Q u t) → ((u t : ℕ) → u < t → t < n → Q u t → P u t) → PairCount P n k → PairCount Q n k
pair_count_like f g no_pairs = no_pairs
pair_count_like f g (more_pairs {n = n} a c) =
    more_pairs (pair_count_like (λ u t l h. f u t l (omega arith)) (λ u t l h. g u t l (omega arith)) a) (count_like (λ u l. f u n l (omega arith)) (λ u l. g u n l (omega arith)) c)

-- a number that has the property is counted
pub count_some : {P : ℕ → Type 0} {n k m : ℕ} → Count P n k → m < n → P m → 1 ≤ k
count_some start h p = absurd (omega arith)
count_some (one a q) h p = omega arith
count_some {P} {m = m} (other {n = n} a q) h p = ⊎_elim (λ e. absurd (q (subst P e p))) (λ ne. count_some a (omega arith) p) (cases_eq m n)

-- and so are two
pub count_two : {P : ℕ → Type 0} {n k l m : ℕ} → Count P n k → l < n → m < n → l ≢ m → P l → P m → 2 ≤ k
count_two start g h d p q = absurd (omega arith)
count_two {l = l} {m = m} (one {n = n} a r) g h d p q =
    ⊎_elim
    (λ e. let c = count_some a (omega arith) q in omega arith)
    (λ ne. let c = count_some a (omega arith) p in omega arith)
    (cases_eq l n)
count_two {P} {l = l} {m = m} (other {n = n} a r) g h d p q =
    ⊎_elim
    (λ e. absurd (r (subst P e p)))
    (λ ne. ⊎_elim (λ e. absurd (r (subst P e q))) (λ me. count_two a (omega arith) (omega arith) d p q) (cases_eq m n))
    (cases_eq l n)

-- where some are counted, there is one; where two are, there is another than any
pub counted : {P : ℕ → Type 0} {n k : ℕ} → Count P n k → 1 ≤ k → (m : ℕ) × (m < n) × P m
counted start h = absurd (omega arith)
counted (one {n = n} a p) h = (n, omega arith, p)
counted (other a p) h = let c = counted a h in (c.0, omega (arith, c.1), c.2)

pub counted_other : {P : ℕ → Type 0} {n k : ℕ} (l : ℕ) → Count P n k → 2 ≤ k → (m : ℕ) × (m ≢ l) × P m
counted_other l start h = absurd (omega arith)
counted_other l (one {n = n} a p) h =
    ⊎_elim
    (λ e. let c = counted a (omega arith) in (c.0, (λ f. omega (arith, c.1, e, f)), c.2))
    (λ ne. (n, ne, p))
    (cases_eq n l)
counted_other l (other a p) h = counted_other l a h

pub count_le : {P : ℕ → Type 0} {n k : ℕ} → Count P n k → k ≤ n
count_le start = omega arith
count_le (one a p) = let h = count_le a in omega arith
count_le (other a p) = let h = count_le a in omega arith

-- a number with the property has fewer below it than there are below a bound above it
pub count_before : {P : ℕ → Type 0} {n k N m : ℕ} → Count P n k → P n → n < N → Count P N m → k < m
count_before c p h start = absurd (omega arith)
count_before {P} {n} {k} c p h (one {n = N} {k = m} a q) =
    ⊎_elim (λ e. let same = count_same (subst (λ (w : ℕ). Count P w k) e c) a in omega arith) (λ ne. let low = count_before c p (omega (arith, ne)) a in omega arith) (cases_eq n N)
count_before {P} {n} c p h (other {n = N} a q) = ⊎_elim (λ e. absurd (q (subst P e p))) (λ ne. count_before c p (omega (arith, ne)) a) (cases_eq n N)

-- the lowest number that has a property, where each number has it or not
module _ (P : ℕ → Type 0) (or : (n : ℕ) → P n ⊎ (¬ P n)) where
  pub record Least : Type 0 where
    pub number : ℕ
    pub has : P number
    pub lowest : (k : ℕ) → k < number → ¬ P k

  below : (n : ℕ) → Least ⊎ ((k : ℕ) → k < n → ¬ P k)
  below zero = inr (λ k h. absurd (omega arith))
  below (suc n) = go (below n)
    where
      go : Least ⊎ ((k : ℕ) → k < n → ¬ P k) → Least ⊎ ((k : ℕ) → k < suc n → ¬ P k)
      go (inl l) = inl l
      go (inr none) =
          ⊎_elim
          (λ p. inl (record { number = n; has = p; lowest = none }))
          (λ np. inr (λ k h. ⊎_elim (λ e. rw e np) (λ ne. none k (omega arith)) (cases_eq k n)))
          (or n)

  pub least : (n : ℕ) → P n → Least
  least n p = ⊎_elim (λ l. l) (λ none. absurd (none n (omega arith) p)) (below (suc n))

-- the lowest so far, and one number more that has the property
pub lowest_more : (P : ℕ → Type 0) (lead next new : ℕ) → new ≡ min lead next → P lead → P next → ((k : ℕ) → k < next → P k → lead ≤ k) → P new × ((k : ℕ) → k < next + 1 → P k → new ≤ k)
lowest_more P lead next new e p q low = (
  ⊎_elim (λ l. let same : lead ≡ new = omega arith in subst P same p) (λ l. let same : next ≡ new = omega arith in subst P same q) (cases_lt lead next),
  λ k h r. ⊎_elim (λ at. omega arith) (λ off. let least-yet = low k (omega arith) r in omega arith) (cases_eq k next),
)

pub lowest_same : (P : ℕ → Type 0) (lead next : ℕ) → ¬ P next → ((k : ℕ) → k < next → P k → lead ≤ k) → (k : ℕ) → k < next + 1 → P k → lead ≤ k
lowest_same P lead next n low k h r = ⊎_elim (λ at. absurd (n (subst P at r))) (λ off. low k (omega arith) r) (cases_eq k next)
