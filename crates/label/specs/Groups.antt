-- Commutative groups. Assumes nothing.
use Rattle.std.specs.Prelude.{◌≡◌}

-- zero, sum and opposite: sum is associative and commutative, zero added changes nothing, and a label plus its opposite is zero
pub record Group (K : Type 0) : Type 0 where
  pub zero : K
  pub sum : K → K → K
  pub opposite : K → K
  pub assoc : (a b c : K) → sum (sum a b) c ≡ sum a (sum b c)
  pub comm : (a b : K) → sum a b ≡ sum b a
  pub unit : (a : K) → sum zero a ≡ a
  pub inverse : (a : K) → sum (opposite a) a ≡ zero
