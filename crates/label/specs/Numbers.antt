-- Numbers below m under addition modulo m are a commutative group. Assumes nothing.
use Rattle.std.specs.Prelude.{◌≡◌, ℕ, ◌+◌, ◌-◌, ◌%◌, ◌<◌}
use Rattle.std.proofs.Common.{sym, ◌∙◌, ap, add_assoc, add_comm, zero-add, mod-lt, mod-eq_of_lt, arith}
use mathlib.Core.HLevel.{Σ_prop_path}
use Rattle.std.proofs.Math.Nat.{zero-mod, mod_self, mod-add-mod, add-mod-mod}
use Rattle.std.proofs.Math.Bridge.{le_prop}
use Rattle.label.specs.Groups.{Group}

-- the numbers below m
abbrev pub Below : ℕ → Type 0
Below m = (n : ℕ) × (n < m)

module _ (m : ℕ) (some : 0 < m) where
  -- a number modulo m
  abbrev pub wrap : ℕ → Below m
  wrap n = (n % m, mod-lt n some)

  -- the bound has one proof, so the number decides
  pub same : (a b : Below m) → a.0 ≡ b.0 → a ≡ b
  same a b e = Σ_prop_path (λ n. le_prop) e

  -- their group
  abbrev pub wrapping : Group (Below m)
  wrapping = record {
    zero = wrap 0;
    sum = λ a b. wrap (a.0 + b.0);
    opposite = λ a. wrap (m - a.0);
    assoc = λ a b c. same _ _ (mod-add-mod (a.0 + b.0) m c.0 ∙ ap (λ n. n % m) (add_assoc a.0 b.0 c.0) ∙ sym (add-mod-mod a.0 (b.0 + c.0) m));
    comm = λ a b. same _ _ (ap (λ n. n % m) (add_comm a.0 b.0));
    unit = λ a. same _ _ (mod-add-mod 0 m a.0 ∙ ap (λ n. n % m) (zero-add a.0) ∙ mod-eq_of_lt a.1);
    inverse = λ a. same _ _ (let low = a.1 in let whole : m - a.0 + a.0 ≡ m = omega arith in mod-add-mod (m - a.0) m a.0 ∙ ap (λ n. n % m) whole ∙ mod_self m ∙ sym (zero-mod m));
  }
