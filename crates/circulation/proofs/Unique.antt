-- Steady labels that agree outside the forest are equal. Assumes nothing.
use Rattle.std.proofs.Common.{◌≡◌, ℕ, zero, suc, Bool, true, false, cond, eqb, List, [], ◌∷◌, length, take, sym, refl, ap, ◌∙◌, ap₂, ⊎_elim, arith}
use Rattle.std.proofs.lemmas.Bool.Decides.{not_from_Decides}
use Rattle.std.proofs.lemmas.Bool.{cases_Bool, true≢false}
use Rattle.network.specs.declared.track.Track.{Track}
use Rattle.graph.specs.Yards.{track, only, closed}
use Rattle.label.specs.Groups.{Group}
use Rattle.circulation.proofs.Steady.{Steady, steady}
use Rattle.circulation.specs.Labels.{label, total}
use Rattle.graph.specs.Counts.{Count, start, one, other}
use Rattle.graph.specs.Forests.{Chord}
use Rattle.circulation.specs.Labellings.{Labelling}
use Rattle.graph.proofs.Decide.{joined_or}
use Rattle.graph.proofs.Subyards.{track_kept, length_only}
use Rattle.graph.proofs.Tests.{in_forest?, decides_forest}
use Rattle.circulation.proofs.Totals.{medial, cancel}
use Rattle.circulation.proofs.Carried.{zero_on_bridge}
use Rattle.graph.proofs.Acyclic.{acyclic}

module _ {K : Type 0} (G : Group K) where
  -- a sum over ends does not see which tracks are shut
  pub total_only : (keep : ℕ → Bool) (pick : Track → Bool) → ((x : Track) → pick (closed x) ≡ pick x) → (y : List Track) (ks : List K) → total G pick (only keep y) ks ≡ total G pick y ks
  total_only keep pick h [] ks = refl
  total_only keep pick h (x ∷ y) [] = refl
  total_only keep pick h (x ∷ y) (k ∷ ks) = ap₂ (λ b s. G.sum (cond b k G.zero) s) (go (keep 0)) (total_only (λ t. keep (suc t)) pick h y ks)
    where
      go : (b : Bool) → pick (cond b x (closed x)) ≡ pick x
      go true = refl
      go false = h x

  -- the differences of labels
  abbrev minus : List K → List K → List K
  minus [] ms = []
  minus (k ∷ ks) [] = []
  minus (k ∷ ks) (m ∷ ms) = G.sum k (G.opposite m) ∷ minus ks ms

  back : (a b : K) → G.sum (G.sum a (G.opposite b)) b ≡ a
  back a b = G.assoc a _ b ∙ ap (G.sum a) (G.inverse b) ∙ G.comm a _ ∙ G.unit a

  length_minus : (ks ms : List K) → length ks ≡ length ms → length (minus ks ms) ≡ length ks
  length_minus [] ms e = refl
  length_minus (k ∷ ks) [] e = absurd (omega arith)
  length_minus (k ∷ ks) (m ∷ ms) e = ap suc (length_minus ks ms (omega arith))

  label_minus : (ks ms : List K) → length ks ≡ length ms → (t : ℕ) → G.sum (label G (minus ks ms) t) (label G ms t) ≡ label G ks t
  label_minus [] [] e t = G.unit _
  label_minus [] (m ∷ ms) e t = absurd (omega arith)
  label_minus (k ∷ ks) [] e t = absurd (omega arith)
  label_minus (k ∷ ks) (m ∷ ms) e zero = back k m
  label_minus (k ∷ ks) (m ∷ ms) e (suc t) = label_minus ks ms (omega arith) t

  cond_minus : (b : Bool) (k m : K) → G.sum (cond b (G.sum k (G.opposite m)) G.zero) (cond b m G.zero) ≡ cond b k G.zero
  cond_minus true k m = back k m
  cond_minus false k m = G.unit _

  total_minus : (pick : Track → Bool) (y : List Track) (ks ms : List K) → length ks ≡ length ms → G.sum (total G pick y (minus ks ms)) (total G pick y ms) ≡ total G pick y ks
  total_minus pick [] ks ms e = G.unit _
  total_minus pick (x ∷ y) [] [] e = G.unit _
  total_minus pick (x ∷ y) [] (m ∷ ms) e = absurd (omega arith)
  total_minus pick (x ∷ y) (k ∷ ks) [] e = absurd (omega arith)
  total_minus pick (x ∷ y) (k ∷ ks) (m ∷ ms) e = medial G _ _ _ _ ∙ ap₂ G.sum (cond_minus (pick x) k m) (total_minus pick y ks ms (omega arith))

  pub same_labels : (ks ms : List K) → length ks ≡ length ms → ((t : ℕ) → label G ks t ≡ label G ms t) → ks ≡ ms
  same_labels [] [] e h = refl
  same_labels [] (m ∷ ms) e h = absurd (omega arith)
  same_labels (k ∷ ks) [] e h = absurd (omega arith)
  same_labels (k ∷ ks) (m ∷ ms) e h = ap₂ ◌∷◌ (h 0) (same_labels ks ms (omega arith) (λ t. h (suc t)))

  module _ (y : List Track) (ks ms : List K) (b : Steady G y ks) (c : Steady G y ms) (agree : (t : ℕ) → Chord y t → label G ks t ≡ label G ms t) where
    as_long : length ks ≡ length ms
    as_long = b.one_each ∙ sym c.one_each

    -- no difference where the labels agree
    no_minus : (t : ℕ) → label G ks t ≡ label G ms t → label G (minus ks ms) t ≡ G.zero
    no_minus t e = cancel G (label G ms t) _ _ (G.comm _ _ ∙ label_minus ks ms as_long t ∙ e ∙ sym (G.unit _) ∙ G.comm _ _)

    minus_shut : (t : ℕ) → (track y t).shut ≡ true → label G (minus ks ms) t ≡ G.zero
    minus_shut t s = no_minus t (b.shut_zero t s ∙ sym (c.shut_zero t s))

    minus_outside : (t : ℕ) → in_forest? y t ≡ false → label G (minus ks ms) t ≡ G.zero
    minus_outside t n =
        ⊎_elim
        (minus_shut t)
        (λ o. ⊎_elim (λ j. no_minus t (agree t (o, j))) (λ m. absurd (not_from_Decides _ (decides_forest y t) n (o, m))) (joined_or (take t y) _ _))
        (cases_Bool (track y t).shut)

    minus_even : (p : ℕ) → total G (λ x. eqb x.first p) y (minus ks ms) ≡ total G (λ x. eqb x.second p) y (minus ks ms)
    minus_even p =
        cancel G (total G (λ x. eqb x.first p) y ms) _ _
        (G.comm _ _
        ∙ total_minus _ y ks ms as_long
        ∙ b.at_point p
        ∙ sym (total_minus _ y ks ms as_long)
        ∙ G.comm _ _
        ∙ ap (λ s. G.sum s (total G (λ x. eqb x.second p) y (minus ks ms))) (sym (c.at_point p)))

    minus_balanced : Steady G (only (in_forest? y) y) (minus ks ms)
    minus_balanced = record {
      one_each = length_minus ks ms as_long ∙ b.one_each ∙ sym (length_only (in_forest? y) y);
      shut_zero = λ t s. ⊎_elim (λ k. minus_shut t (rw (track_kept (in_forest? y) y t k) at s)) (minus_outside t) (cases_Bool (in_forest? y t));
      at_point = λ p. total_only (in_forest? y) _ (λ x. refl) y (minus ks ms) ∙ minus_even p ∙ sym (total_only (in_forest? y) _ (λ x. refl) y (minus ks ms));
    }

    minus_zero : (t : ℕ) → label G (minus ks ms) t ≡ G.zero
    minus_zero t = ⊎_elim (λ k. zero_on_bridge G (only (in_forest? y) y) (minus ks ms) minus_balanced t (acyclic y (in_forest? y) (λ u. (decides_forest y u).0) t k)) (minus_outside t) (cases_Bool (in_forest? y t))

    pub forest_decides : ks ≡ ms
    forest_decides = same_labels ks ms as_long (λ t. sym (label_minus ks ms as_long t) ∙ ap (λ z. G.sum z (label G ms t)) (minus_zero t) ∙ G.unit _)

-- every number of tracks has some number of chords
pub chords : (y : List Track) (t : ℕ) → (i : ℕ) × Count (Chord y) t i
chords y zero = (0, start)
chords y (suc t) = go (chords y t)
  where
    go : (i : ℕ) × Count (Chord y) t i → (i : ℕ) × Count (Chord y) (suc t) i
    go (i, n) =
        ⊎_elim
        (λ s. (i, other n (λ d. true≢false (sym s ∙ d.0))))
        (λ o. ⊎_elim (λ j. (suc i, one n (o, j))) (λ m. (i, other n (λ d. m d.1))) (joined_or (take t y) (track y t).first (track y t).second))
        (cases_Bool (track y t).shut)

pub labelling_unique : {K : Type 0} (G : Group K) (y : List Track) (drawn : ℕ → K) (ks ms : List K) → Labelling G y drawn ks → Labelling G y drawn ms → ks ≡ ms
labelling_unique G y drawn ks ms a b = forest_decides G y ks ms (steady G y ks a.balanced) (steady G y ms b.balanced) (λ t d. let (i, n) = chords y t in a.carries t i n d ∙ sym (b.carries t i n d))
