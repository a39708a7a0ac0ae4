-- When labels are accepted. Assumes nothing.
use Rattle.std.specs.Prelude.{◌≡◌, ℕ, ◌<◌, true, ◌≢◌, ◌⊎◌, List, length}
use Rattle.network.specs.declared.track.Track.{Track}
use Rattle.label.specs.Groups.{Group}
use Rattle.graph.specs.Yards.{track, Bridge, CutPair}
use Rattle.circulation.specs.Labels.{label, Balanced}

-- two labels are equal or opposite
abbrev pub Alike : {K : Type 0} → Group K → K → K → Type 0
Alike G a b = (a ≡ b) ⊎ (a ≡ G.opposite b)

-- labels are accepted: they balance, only bridges and shut tracks carry zero, and any two different tracks with equal or opposite labels other than zero are a cut pair
pub record Accepted {K : Type 0} (G : Group K) (y : List Track) (ks : List K) : Type 0 where
  pub balanced : Balanced G y ks
  pub only_bridges : (t : ℕ) → t < length y → label G ks t ≡ G.zero → ((track y t).shut ≡ true) ⊎ Bridge y t
  pub only_pairs : (t u : ℕ) → t < length y → u < length y → t ≢ u → label G ks t ≢ G.zero → Alike G (label G ks t) (label G ks u) → CutPair y t u
