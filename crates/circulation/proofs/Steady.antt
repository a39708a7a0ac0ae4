-- Balance with sums over all tracks: shut tracks carry zero, so it is the same. Assumes nothing.
use Rattle.std.proofs.Common.{◌≡◌, ℕ, suc, Bool, true, false, cond, not, ◌&&◌, eqb, List, [], ◌∷◌, length, sym, refl, ◌∙◌, ap₂}
use Rattle.network.specs.declared.track.Track.{Track}
use Rattle.graph.specs.Yards.{track}
use Rattle.label.specs.Groups.{Group}
use Rattle.circulation.specs.Labels.{label, total, Balanced}

module _ {K : Type 0} (G : Group K) where
  cond_open : (s p : Bool) (k : K) → (s ≡ true → k ≡ G.zero) → cond (not s && p) k G.zero ≡ cond p k G.zero
  cond_open true true k h = sym (h refl)
  cond_open true false k h = refl
  cond_open false p k h = refl

  pub open_carry : (pick : Track → Bool) (y : List Track) (ks : List K) → ((t : ℕ) → (track y t).shut ≡ true → label G ks t ≡ G.zero) → total G (λ x. not x.shut && pick x) y ks ≡ total G pick y ks
  open_carry pick [] ks h = refl
  open_carry pick (x ∷ y) [] h = refl
  open_carry pick (x ∷ y) (k ∷ ks) h = ap₂ G.sum (cond_open x.shut (pick x) k (h 0)) (open_carry pick y ks (λ t. h (suc t)))

  pub record Steady (y : List Track) (ks : List K) : Type 0 where
    pub one_each : length ks ≡ length y
    pub shut_zero : (t : ℕ) → (track y t).shut ≡ true → label G ks t ≡ G.zero
    pub at_point : (p : ℕ) → total G (λ x. eqb x.first p) y ks ≡ total G (λ x. eqb x.second p) y ks

  pub steady : (y : List Track) (ks : List K) → Balanced G y ks → Steady y ks
  steady y ks b = record {
    one_each = b.one_each;
    shut_zero = b.shut_zero;
    at_point = λ p. sym (open_carry (λ x. eqb x.first p) y ks b.shut_zero) ∙ b.at_point p ∙ open_carry (λ x. eqb x.second p) y ks b.shut_zero;
  }

  pub balanced : (y : List Track) (ks : List K) → Steady y ks → Balanced G y ks
  balanced y ks b = record {
    one_each = b.one_each;
    shut_zero = b.shut_zero;
    at_point = λ p. open_carry (λ x. eqb x.first p) y ks b.shut_zero ∙ b.at_point p ∙ sym (open_carry (λ x. eqb x.second p) y ks b.shut_zero);
  }
