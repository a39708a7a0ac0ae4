-- Numbers that are picked: one more, one fewer, and that a single one is told by the exclusive or. Assumes nothing.
use Rattle.std.proofs.Common.{◌≡◌, ℕ, zero, suc, ◌+◌, ◌<◌, ◌≤◌, Bool, true, false, cond, ◌≢◌, sym, refl, ap, ◌∙◌, ⊎_elim, add-one, arith}
use lib.Bits.{bit_xor, xor_assoc, xor_comm, xor_zero_l, xor_self}
use Rattle.std.proofs.lemmas.Bool.{cases_eq, cases_Bool, true≢false}
use Rattle.graph.specs.Degrees.{how_many, xor_of}

-- the numbers crossed over
xor_swap : (a b c : ℕ) → bit_xor (bit_xor a b) c ≡ bit_xor (bit_xor a c) b
xor_swap a b c = xor_assoc a b c ∙ ap (bit_xor a) (xor_comm b c) ∙ sym (xor_assoc a c b)

-- and one that is there twice is gone
xor_gone : (a b : ℕ) → bit_xor (bit_xor a b) b ≡ a
xor_gone a b = xor_assoc a b b ∙ ap (bit_xor a) (xor_self b) ∙ xor_comm a 0 ∙ xor_zero_l a

module _ (pick : ℕ → Bool) where
  many_true : (n : ℕ) → pick n ≡ true → how_many pick (suc n) ≡ suc (how_many pick n)
  many_true n e = ap (λ b. cond b (suc (how_many pick n)) (how_many pick n)) e

  many_false : (n : ℕ) → pick n ≡ false → how_many pick (suc n) ≡ how_many pick n
  many_false n e = ap (λ b. cond b (suc (how_many pick n)) (how_many pick n)) e

  xor_true : (n : ℕ) → pick n ≡ true → xor_of pick (suc n) ≡ bit_xor (xor_of pick n) n
  xor_true n e = ap (λ b. cond b (bit_xor (xor_of pick n) n) (xor_of pick n)) e

  xor_false : (n : ℕ) → pick n ≡ false → xor_of pick (suc n) ≡ xor_of pick n
  xor_false n e = ap (λ b. cond b (bit_xor (xor_of pick n) n) (xor_of pick n)) e

  -- one number more, picked or not
  pub picked_more : (n : ℕ) → pick n ≡ true → (how_many pick (n + 1) ≡ how_many pick n + 1) × (xor_of pick (n + 1) ≡ bit_xor (xor_of pick n) n)
  picked_more n e = (ap (how_many pick) (add-one n) ∙ many_true n e ∙ sym (add-one _), ap (xor_of pick) (add-one n) ∙ xor_true n e)

  pub picked_same : (n : ℕ) → pick n ≡ false → (how_many pick (n + 1) ≡ how_many pick n) × (xor_of pick (n + 1) ≡ xor_of pick n)
  picked_same n e = (ap (how_many pick) (add-one n) ∙ many_false n e, ap (xor_of pick) (add-one n) ∙ xor_false n e)

  pub many_le : (n : ℕ) → how_many pick n ≤ n
  many_le zero = omega arith
  many_le (suc n) = let l = many_le n in ⊎_elim (λ t. omega (arith, many_true n t)) (λ f. omega (arith, many_false n f)) (cases_Bool (pick n))

  none_xor : (n : ℕ) → how_many pick n ≡ 0 → xor_of pick n ≡ 0
  none_xor zero e = refl
  none_xor (suc n) e = ⊎_elim (λ t. absurd (omega (arith, many_true n t))) (λ f. xor_false n f ∙ none_xor n (sym (many_false n f) ∙ e)) (cases_Bool (pick n))

  none_picked : (n t : ℕ) → how_many pick n ≡ 0 → t < n → pick t ≡ false
  none_picked zero t e h = absurd (omega arith)
  none_picked (suc n) t e h =
      ⊎_elim
      (λ on. absurd (omega (arith, many_true n on)))
      (λ off. ⊎_elim (λ same. ap pick same ∙ off) (λ ne. none_picked n t (sym (many_false n off) ∙ e) (omega arith)) (cases_eq t n))
      (cases_Bool (pick n))

  -- t alone is picked
  pub record Single (n t : ℕ) : Type 0 where
    pub low : t < n
    pub picked : pick t ≡ true
    pub only : (u : ℕ) → u < n → pick u ≡ true → u ≡ t

  -- where one number is picked, the exclusive or is that number
  pub single : (n : ℕ) → how_many pick n ≡ 1 → Single n (xor_of pick n)
  single zero e = absurd (omega arith)
  single (suc n) e =
      ⊎_elim
      (λ on.
      let none : how_many pick n ≡ 0 = omega (arith, many_true n on) in
      let is : n ≡ xor_of pick (suc n) = sym (xor_zero_l n) ∙ ap (λ x. bit_xor x n) (sym (none_xor n none)) ∙ sym (xor_true n on) in
      record {
        low = omega arith;
        picked = ap pick (sym is) ∙ on;
        only = λ u h q. ⊎_elim (λ same. same ∙ is) (λ ne. absurd (true≢false (sym q ∙ none_picked n u none (omega arith)))) (cases_eq u n);
      })
      (λ off.
      let w = single n (sym (many_false n off) ∙ e) in
      let is : xor_of pick n ≡ xor_of pick (suc n) = sym (xor_false n off) in
      record {
        low = omega (arith, w.low);
        picked = ap pick (sym is) ∙ w.picked;
        only = λ u h q. ⊎_elim (λ same. absurd (true≢false (sym q ∙ ap pick same ∙ off))) (λ ne. w.only u (omega (arith, ne)) q ∙ is) (cases_eq u n);
      })
      (cases_Bool (pick n))

  no_more : (n : ℕ) → ((u : ℕ) → u < n → pick u ≡ false) → how_many pick n ≡ 0
  no_more zero none = refl
  no_more (suc n) none = many_false n (none n (omega arith)) ∙ no_more n (λ u h. none u (omega arith))

  -- and where one alone is picked, there is one
  pub one_single : (n t : ℕ) → Single n t → how_many pick n ≡ 1
  one_single zero t w = absurd (omega (arith, w.low))
  one_single (suc n) t w =
      ⊎_elim
      (λ on.
      let is = w.only n (omega arith) on in
      let none = no_more n (λ u h. ⊎_elim (λ q. absurd (let e = w.only u (omega arith) q in omega arith)) (λ q. q) (cases_Bool (pick u))) in
      omega (arith, many_true n on))
      (λ off.
      let ne : t ≢ n = λ e. true≢false (sym w.picked ∙ ap pick e ∙ off) in
      many_false n off ∙ one_single n t (record { low = omega (arith, ne, w.low); picked = w.picked; only = λ u h q. w.only u (omega arith) q }))
      (cases_Bool (pick n))

module _ (pick pick' : ℕ → Bool) where
  -- picked alike
  pub picked_like : (n : ℕ) → ((u : ℕ) → u < n → pick' u ≡ pick u) → (how_many pick' n ≡ how_many pick n) × (xor_of pick' n ≡ xor_of pick n)
  picked_like zero same = (refl, refl)
  picked_like (suc n) same =
      let w = picked_like n (λ u h. same u (omega arith)) in
      let e = same n (omega arith) in
      ⊎_elim
      (λ on.
      (many_true pick' n (e ∙ on) ∙ ap suc w.0 ∙ sym (many_true pick n on), xor_true pick' n (e ∙ on) ∙ ap (λ x. bit_xor x n) w.1 ∙ sym (xor_true pick n on)))
      (λ off.
      (many_false pick' n (e ∙ off) ∙ w.0 ∙ sym (many_false pick n off), xor_false pick' n (e ∙ off) ∙ w.1 ∙ sym (xor_false pick n off)))
      (cases_Bool (pick n))

  -- all but t
  pub picked_off : (t : ℕ) → pick t ≡ true → pick' t ≡ false → ((u : ℕ) → u ≢ t → pick' u ≡ pick u) → (n : ℕ) → t < n
      → (how_many pick n ≡ how_many pick' n + 1) × (xor_of pick' n ≡ bit_xor (xor_of pick n) t)
  picked_off t was gone same zero h = absurd (omega arith)
  picked_off t was gone same (suc n) h =
      ⊎_elim
      (λ e.
      let on : pick n ≡ true = ap pick (sym e) ∙ was in
      let off : pick' n ≡ false = ap pick' (sym e) ∙ gone in
      let w = picked_like n (λ u l. same u (omega arith)) in (
        omega (arith, many_true pick n on, many_false pick' n off, w.0),
        xor_false pick' n off ∙ w.1 ∙ sym (xor_gone (xor_of pick n) n) ∙ ap (bit_xor (bit_xor (xor_of pick n) n)) (sym e) ∙ ap (λ x. bit_xor x t) (sym (xor_true pick n on)),
      ))
      (λ ne.
      let w = picked_off t was gone same n (omega (arith, ne)) in
      let e = same n (λ q. ne (sym q)) in
      ⊎_elim
      (λ on. (
        omega (arith, many_true pick n on, many_true pick' n (e ∙ on), w.0),
        xor_true pick' n (e ∙ on) ∙ ap (λ x. bit_xor x n) w.1 ∙ xor_swap (xor_of pick n) t n ∙ ap (λ x. bit_xor x t) (sym (xor_true pick n on)),
      ))
      (λ off. (
        omega (arith, many_false pick n off, many_false pick' n (e ∙ off), w.0),
        xor_false pick' n (e ∙ off) ∙ w.1 ∙ ap (λ x. bit_xor x t) (sym (xor_false pick n off)),
      ))
      (cases_Bool (pick n)))
      (cases_eq t n)
