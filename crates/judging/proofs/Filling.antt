-- What an array holds that a closure fills. Assumes nothing.
use Rattle.std.proofs.Common.{◌≡◌, ℕ, zero, suc, ◌+◌, ◌<◌, ◌≤◌, List, get_or, sym, subst, ⊎_elim, arith}
use Rattle.std.proofs.lemmas.Bool.{cases_eq}
use Rattle.std.specs.Array.{IsFromFnResultFrom, IsFromFnResult}
use denote.Param.Members.{Mut, Called}

-- where each call leaves the closure as it was and its answer has a property, so has each element
module _ {F B : Type 0} (g : Mut F (ℕ × Unit {0}) B) (f : F) (P : ℕ → B → Type 0) (each : (i : ℕ) (y : B) (q : F) → Called g f (i, tt) y q → (q ≡ f) × P i y) (ys : List B) (d : B) where
  filled_from : (n i : ℕ) → IsFromFnResultFrom g f ys i n → (k : ℕ) → i ≤ k → k < i + n → P k (get_or ys k d)
  filled_from zero i r k low high = absurd (omega arith)
  filled_from (suc n) i (q, y, at, call, rest) k low high =
      let w = each i y q call in
      ⊎_elim
      (λ same. subst (λ (j : ℕ). P j (get_or ys j d)) (sym same) (subst (P i) (sym (at.1 d)) w.1))
      (λ ne. filled_from n (i + 1) (subst (λ p. IsFromFnResultFrom g p ys (i + 1) n) w.0 rest) k (omega (arith, ne)) (omega arith))
      (cases_eq k i)

pub filled : {F B : Type 0} {g : Mut F (ℕ × Unit {0}) B} {f : F} {ys : List B} {n : ℕ} (P : ℕ → B → Type 0) (d : B) → IsFromFnResult g f ys n → ((i : ℕ) (y : B) (q : F) → Called g f (i, tt) y q → (q ≡ f) × P i y) → (k : ℕ) → k < n → P k (get_or ys k d)
filled {g = g} {f = f} {ys = ys} {n = n} P d r each k h = filled_from g f P each ys d n 0 r.each k (omega arith) (omega arith)
