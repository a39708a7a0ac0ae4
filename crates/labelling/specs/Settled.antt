-- Labels of which some are still to be settled. Assumes nothing.
use Rattle.std.specs.Prelude.{◌≡◌, ℕ, ◌<◌, Bool, true, false, List}
use Rattle.network.specs.declared.track.Track.{Track}
use Rattle.label.specs.Groups.{Group}
use Rattle.graph.specs.Counts.{Count}
use Rattle.graph.specs.Degrees.{flagged}
use Rattle.graph.specs.Forests.{Chord}
use Rattle.circulation.specs.Labels.{label}

-- ks carries zero on the tracks that are left, and what L does on all others
pub record Known {K : Type 0} (G : Group K) (L ks : List K) (left : List Bool) : Type 0 where
  pub zero_left : (t : ℕ) → flagged left t ≡ true → label G ks t ≡ G.zero
  pub settled : (t : ℕ) → flagged left t ≡ false → label G ks t ≡ label G L t

-- of the tracks below n, a chord with i chords below it carries the draw i, and every other track zero
pub record ChordsDrawn {K : Type 0} (G : Group K) (y : List Track) (drawn : ℕ → K) (ks : List K) (n : ℕ) : Type 0 where
  pub chord : (t i : ℕ) → t < n → Count (Chord y) t i → Chord y t → label G ks t ≡ drawn i
  pub other : (t : ℕ) → t < n → ¬ Chord y t → label G ks t ≡ G.zero
