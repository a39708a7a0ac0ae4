-- Labels on the tracks of a yard, out of a commutative group, and when they balance. Assumes nothing.
use Rattle.std.specs.Prelude.{◌≡◌, ℕ, Bool, true, cond, not, ◌&&◌, List, [], ◌∷◌, length, ◌==◌, slice_index_or}
use Rattle.network.specs.declared.track.Track.{Track}
use Rattle.label.specs.Groups.{Group}
use Rattle.graph.specs.Yards.{track}

-- x is open and has the first point p
abbrev pub leaves_from : ℕ → Track → Bool
leaves_from p x = not x.shut && x.first == p

-- x is open and has the second point p
abbrev pub enters_at : ℕ → Track → Bool
enters_at p x = not x.shut && x.second == p

module _ {K : Type 0} (G : Group K) where
  -- what the track t carries
  abbrev pub label : List K → ℕ → K
  label ks t = slice_index_or ks t G.zero

  -- the sum of the labels of the tracks that are picked
  abbrev pub total : (Track → Bool) → List Track → List K → K
  total pick [] ks = G.zero
  total pick (x ∷ y) [] = G.zero
  total pick (x ∷ y) (k ∷ ks) = G.sum (cond (pick x) k G.zero) (total pick y ks)

  -- labels balance (are a circulation): there is one for each track, every shut track carries zero, and at each point
  -- the labels of the open tracks with that first point sum to the same as those with that second point
  pub record Balanced (y : List Track) (ks : List K) : Type 0 where
    pub one_each : length ks ≡ length y
    pub shut_zero : (t : ℕ) → (track y t).shut ≡ true → label ks t ≡ G.zero
    pub at_point : (p : ℕ) → total (leaves_from p) y ks ≡ total (enters_at p) y ks

-- x leads out of the points S
abbrev pub leaves : (ℕ → Bool) → Track → Bool
leaves S x = S x.first && not (S x.second)

-- x leads into the points S
abbrev pub enters : (ℕ → Bool) → Track → Bool
enters S x = S x.second && not (S x.first)
