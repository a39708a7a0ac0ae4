-- What is proved of balanced labels, for every group: each statement stands in the contract of a function of src/lib.rt. Assumes nothing.
use Rattle.std.specs.Prelude.{◌≡◌, ℕ, ◌*◌, ◌<◌, ◌≤◌, Bool, ◌≢◌, ◌⊎◌, List}
use Rattle.network.specs.declared.track.Track.{Track}
use Rattle.label.specs.declared.xor.Xor.{Xor}
use Rattle.label.specs.Groups.{Group}
use Rattle.label.specs.Kinds.{xors}
use Rattle.graph.specs.Forests.{WordsNeeded}
use Rattle.graph.specs.Yards.{Open, Bridge, CutPair}
use Rattle.circulation.specs.Labels.{label, total, Balanced, leaves, enters}
use Rattle.circulation.specs.Labellings.{Labelling}
use Rattle.circulation.specs.Units.{units}

-- the cut theorem; zero on bridges; equal or opposite on cut pairs
pub record BalanceLaws {K : Type 0} (G : Group K) : Type 0 where
  pub cut : (y : List Track) (ks : List K) → Balanced G y ks → (S : ℕ → Bool) → total G (leaves S) y ks ≡ total G (enters S) y ks
  pub bridge : (y : List Track) (ks : List K) → Balanced G y ks → (t : ℕ) → Bridge y t → label G ks t ≡ G.zero
  pub pair : (y : List Track) (ks : List K) → Balanced G y ks → (t u : ℕ) → CutPair y t u → (label G ks t ≡ label G ks u) ⊎ (label G ks t ≡ G.opposite (label G ks u))

-- and no other tracks are so: one that is no bridge can carry any label, and of two that are no cut pair one can carry it where the other carries zero
pub record TellingLaws {K : Type 0} (G : Group K) : Type 0 where
  pub bridge : (y : List Track) (t : ℕ) → Open y t → ¬ Bridge y t → (k : K) → (ks : List K) × Balanced G y ks × (label G ks t ≡ k)
  pub pair : (y : List Track) (t u : ℕ) → t ≢ u → Open y t → Open y u → ¬ Bridge y t → ¬ Bridge y u → ¬ CutPair y t u → (k : K)
      → (ks : List K) × Balanced G y ks × (label G ks t ≡ k) × (label G ks u ≡ G.zero)

-- whatever is drawn, there is one labelling that carries it, and no other
pub record LabellingLaws {K : Type 0} (G : Group K) : Type 0 where
  pub some : (y : List Track) (drawn : ℕ → K) → (ks : List K) × Labelling G y drawn ks
  pub one : (y : List Track) (drawn : ℕ → K) (ks ms : List K) → Labelling G y drawn ks → Labelling G y drawn ms → ks ≡ ms

-- labellings of words of one bit each, in rounds of 64 words, tell all: an open track that carries zero in every round is a bridge, and two that are no bridges and
-- carry the same in every round are a cut pair
pub record UnitLaws : Type 0 where
  pub bridge : (y : List Track) (n rounds : ℕ) → WordsNeeded y n → n ≤ rounds * 64 → (t : ℕ) → Open y t
      → ((r : ℕ) → r < rounds → (ks : List Xor) → Labelling xors y (units r) ks → label xors ks t ≡ xors.zero) → Bridge y t
  pub pair : (y : List Track) (n rounds : ℕ) → WordsNeeded y n → n ≤ rounds * 64 → (t u : ℕ) → t ≢ u → Open y t → Open y u → ¬ Bridge y t → ¬ Bridge y u
      → ((r : ℕ) → r < rounds → (ks : List Xor) → Labelling xors y (units r) ks → label xors ks t ≡ label xors ks u) → CutPair y t u
