-- How many numbers have a property. Assumes nothing.
use Rattle.std.specs.Prelude.{ℕ, suc, ◌+◌}

-- of the numbers below n, k have P
pub data Count (P : ℕ → Type 0) : ℕ → ℕ → Type 0 where
  start : Count P 0 0
  one : {n k : ℕ} → Count P n k → P n → Count P (suc n) (suc k)
  other : {n k : ℕ} → Count P n k → ¬ P n → Count P (suc n) k

-- of the pairs of numbers below n, the lower one first, k have P
pub data PairCount (P : ℕ → ℕ → Type 0) : ℕ → ℕ → Type 0 where
  no_pairs : PairCount P 0 0
  more_pairs : {n k j : ℕ} → PairCount P n k → Count (λ u. P u n) n j → PairCount P (suc n) (k + j)
