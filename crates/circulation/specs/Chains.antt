-- Chains of the tracks that are picked for a point: heads and links. Assumes nothing.
use Rattle.std.specs.Prelude.{◌≡◌, ℕ, zero, suc, ◌<◌, Bool, true, cond, List, slice_index}
use Rattle.network.specs.declared.track.Track.{Track}
use Rattle.graph.specs.Yards.{track}

-- the highest number below n that is picked, one higher, or 0 where none is
abbrev pub highest : (ℕ → Bool) → ℕ → ℕ
highest pick zero = 0
highest pick (suc n) = cond (pick n) (suc n) (highest pick n)

-- each point has at its place the highest of the tracks below n that are picked for it, and each of these tracks the next lower one that is picked for the same point
abbrev pub Chained : (ℕ → Track → Bool) → List Track → List ℕ → List ℕ → ℕ → Type 0
Chained pick y heads links n =
    ((p : ℕ) → p < 512 → slice_index heads p ≡ highest (λ t. pick p (track y t)) n)
    × ((p t : ℕ) → t < n → pick p (track y t) ≡ true → slice_index links t ≡ highest (λ u. pick p (track y u)) t)
