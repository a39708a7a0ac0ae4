-- Labels by a function of the number, and what is sent along a chain of tracks. Assumes nothing.
use Rattle.std.proofs.Common.{◌≡◌, ℕ, zero, suc, ◌<◌, Bool, true, false, cond, eqb, ◌≢◌, ◌⊎◌, List, [], ◌∷◌, length, sym, refl, ap, ◌∙◌, subst, ap₂, inl, inr, arith}
use Rattle.network.specs.declared.track.Track.{Track}
use Rattle.graph.specs.Yards.{Joined, here, along, Ends, Open, track}
use Rattle.label.specs.Groups.{Group}
use Rattle.circulation.specs.Labels.{label, total}
use Rattle.graph.proofs.Fronts.{open_within}
use Rattle.circulation.proofs.Totals.{unit_right, left_comm, medial, cancel}

module _ {K : Type 0} (G : Group K) where
  -- the labels f 0, f 1, .. of n tracks
  abbrev pub listed : ℕ → (ℕ → K) → List K
  listed zero f = []
  listed (suc n) f = f 0 ∷ listed n (λ t. f (suc t))

  pub length_listed : (n : ℕ) (f : ℕ → K) → length (listed n f) ≡ n
  length_listed zero f = refl
  length_listed (suc n) f = ap suc (length_listed n (λ t. f (suc t)))

  pub label_listed : (n : ℕ) (f : ℕ → K) (t : ℕ) → t < n → label G (listed n f) t ≡ f t
  label_listed zero f t h = absurd (omega arith)
  label_listed (suc n) f zero h = refl
  label_listed (suc n) f (suc t) h = label_listed n (λ u. f (suc u)) t (omega arith)

  pub label_zero : (n : ℕ) (f : ℕ → K) (t : ℕ) → f t ≡ G.zero → label G (listed n f) t ≡ G.zero
  label_zero zero f t h = refl
  label_zero (suc n) f zero h = h
  label_zero (suc n) f (suc t) h = label_zero n (λ u. f (suc u)) t h

  -- k on the track t alone
  abbrev pub bump : ℕ → K → ℕ → K
  bump zero k zero = k
  bump zero k (suc u) = G.zero
  bump (suc t) k zero = G.zero
  bump (suc t) k (suc u) = bump t k u

  pub bump_same : (t : ℕ) (k : K) → bump t k t ≡ k
  bump_same zero k = refl
  bump_same (suc t) k = bump_same t k

  pub bump_other : (t : ℕ) (k : K) (u : ℕ) → u ≢ t → bump t k u ≡ G.zero
  bump_other zero k zero n = absurd (n refl)
  bump_other zero k (suc u) n = refl
  bump_other (suc t) k zero n = refl
  bump_other (suc t) k (suc u) n = bump_other t k u (λ e. n (ap suc e))

  -- the sum of what f puts on the tracks of y that are picked
  abbrev pub amount : List Track → (Track → Bool) → (ℕ → K) → K
  amount y pick f = total G pick y (listed (length y) f)

  cond_zero : (b : Bool) → cond b G.zero G.zero ≡ G.zero
  cond_zero true = refl
  cond_zero false = refl

  cond_sum : (b : Bool) (k l : K) → cond b (G.sum k l) G.zero ≡ G.sum (cond b k G.zero) (cond b l G.zero)
  cond_sum true k l = refl
  cond_sum false k l = sym (G.unit _)

  pub amount_zero : (y : List Track) (pick : Track → Bool) → amount y pick (λ _. G.zero) ≡ G.zero
  amount_zero [] pick = refl
  amount_zero (x ∷ y) pick = ap₂ G.sum (cond_zero (pick x)) (amount_zero y pick) ∙ G.unit _

  pub amount_sum : (y : List Track) (pick : Track → Bool) (f g : ℕ → K) → amount y pick (λ t. G.sum (f t) (g t)) ≡ G.sum (amount y pick f) (amount y pick g)
  amount_sum [] pick f g = sym (G.unit _)
  amount_sum (x ∷ y) pick f g = ap₂ G.sum (cond_sum (pick x) (f 0) (g 0)) (amount_sum y pick (λ t. f (suc t)) (λ t. g (suc t))) ∙ medial G _ _ _ _

  pub amount_bump : (y : List Track) (pick : Track → Bool) (t : ℕ) (k : K) → t < length y → amount y pick (bump t k) ≡ cond (pick (track y t)) k G.zero
  amount_bump [] pick t k h = absurd (omega arith)
  amount_bump (x ∷ y) pick zero k h = ap (G.sum _) (amount_zero y pick) ∙ unit_right G _
  amount_bump (x ∷ y) pick (suc t) k h = ap₂ G.sum (cond_zero (pick x)) (amount_bump y pick t k (omega arith)) ∙ G.unit _

  -- k at the point a, zero elsewhere
  abbrev pub spot : ℕ → K → ℕ → K
  spot a k p = cond (eqb a p) k G.zero

  abbrev pub out : List Track → ℕ → (ℕ → K) → K
  out y p f = amount y (λ x. eqb x.first p) f

  abbrev pub into : List Track → ℕ → (ℕ → K) → K
  into y p f = amount y (λ x. eqb x.second p) f

  -- f carries k from a to b
  abbrev pub Carries : List Track → (ℕ → K) → K → ℕ → ℕ → Type 0
  Carries y f k a b = (p : ℕ) → G.sum (out y p f) (spot b k p) ≡ G.sum (into y p f) (spot a k p)

  step_sum : (O I o i A B C : K) → G.sum O B ≡ G.sum I A → G.sum o C ≡ G.sum i B → G.sum (G.sum O o) C ≡ G.sum (G.sum I i) A
  step_sum O I o i A B C e f =
      cancel G B _ _
      (left_comm G B _ C
      ∙ sym (medial G O B o C)
      ∙ ap₂ G.sum e f
      ∙ medial G I A i B
      ∙ ap (G.sum _) (G.comm A B)
      ∙ sym (left_comm G B _ A))

  pub carries_on : (y : List Track) (f g : ℕ → K) (k : K) (a b c : ℕ) → Carries y f k a b → Carries y g k b c → Carries y (λ t. G.sum (f t) (g t)) k a c
  carries_on y f g k a b c h j p =
      ap (λ s. G.sum s (spot c k p)) (amount_sum y _ f g) ∙ step_sum _ _ _ _ _ _ _ (h p) (j p) ∙ ap (λ s. G.sum s (spot a k p)) (sym (amount_sum y _ f g))

  -- what a link puts on its track to carry k
  abbrev signed : {P Q : Type 0} → P ⊎ Q → K → K
  signed (inl _) k = k
  signed (inr _) k = G.opposite k

  spot_gone : (a : ℕ) (k : K) (p : ℕ) → G.sum (spot a (G.opposite k) p) (spot a k p) ≡ G.zero
  spot_gone a k p = go (eqb a p)
    where
      go : (b : Bool) → G.sum (cond b (G.opposite k) G.zero) (cond b k G.zero) ≡ G.zero
      go true = G.inverse k
      go false = G.unit _

  module _ (y : List Track) (t : ℕ) (k : K) (h : t < length y) (p : ℕ) where
    out_bump : (a : ℕ) → (track y t).first ≡ a → out y p (bump t k) ≡ spot a k p
    out_bump a e = amount_bump y _ t k h ∙ ap (λ b. spot b k p) e

    into_bump : (a : ℕ) → (track y t).second ≡ a → into y p (bump t k) ≡ spot a k p
    into_bump a e = amount_bump y _ t k h ∙ ap (λ b. spot b k p) e

  pub carries_step : (y : List Track) (t : ℕ) (k : K) (a b : ℕ) → t < length y → (e : Ends (track y t) a b) → Carries y (bump t (signed e k)) k a b
  carries_step y t k a b h (inl e) p = ap₂ G.sum (out_bump y t k h p a e.0) refl ∙ G.comm _ _ ∙ ap₂ G.sum (sym (into_bump y t k h p b e.1)) refl
  carries_step y t k a b h (inr e) p =
      ap₂ G.sum (out_bump y t (G.opposite k) h p b e.0) refl
      ∙ spot_gone b k p
      ∙ sym (spot_gone a k p)
      ∙ ap₂ G.sum (sym (into_bump y t (G.opposite k) h p a e.1)) refl

  -- k sent along a chain
  abbrev pub flow : {y : List Track} {a b : ℕ} → Joined y a b → K → ℕ → K
  flow here k t = G.zero
  flow (along j l) k t = G.sum (flow j k t) (bump l.number (signed l.ends k) t)

  pub flow_carries : {y : List Track} {a b : ℕ} (j : Joined y a b) (k : K) → Carries y (flow j k) k a b
  flow_carries {y} here k = λ p. ap₂ G.sum (amount_zero y _ ∙ sym (amount_zero y _)) refl
  flow_carries {y} {a} (along {b = b} {c = c} j l) k =
      carries_on y (flow j k) (bump l.number (signed l.ends k)) k a b c (flow_carries j k) (carries_step y l.number k b c (open_within y l.number l.is_open) l.ends)

  -- nothing is sent on a shut track
  pub flow_shut : {y : List Track} {a b : ℕ} (j : Joined y a b) (k : K) (t : ℕ) → ¬ Open y t → flow j k t ≡ G.zero
  flow_shut here k t n = refl
  flow_shut {y} (along j l) k t n =
      ap₂ G.sum (flow_shut j k t n) (bump_other l.number _ t (λ e. n (subst (λ (u : ℕ). Open y u) (sym e) l.is_open))) ∙ G.unit _
