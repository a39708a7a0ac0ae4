-- Cut classes: what any two of a set's tracks are. Assumes nothing.
use Rattle.std.specs.Prelude.{◌≡◌, ℕ, ◌≤◌, Bool, true, ◌≢◌, ◌⊎◌, List, length}
use Rattle.network.specs.declared.track.Track.{Track}
use Rattle.graph.specs.Counts.{Count, PairCount}
use Rattle.graph.specs.Yards.{Open, Bridge, CutPair}

-- the number t is in the set S
abbrev pub In : (ℕ → Bool) → ℕ → Type 0
In S t = S t ≡ true

-- a cut class: a set of two or more open tracks of which any two are a cut pair, and to which no further track can be added so
pub record CutClass (y : List Track) (S : ℕ → Bool) : Type 0 where
  pub two_or_more : (t u : ℕ) × In S t × In S u × (t ≢ u)
  pub all_open : (t : ℕ) → In S t → Open y t
  pub any_two : (t u : ℕ) → In S t → In S u → t ≢ u → CutPair y t u
  pub no_further : (v : ℕ) → ((t : ℕ) → In S t → CutPair y v t) → ⊥

-- u is t, or makes a cut pair with it
abbrev pub Fellow : List Track → ℕ → ℕ → Type 0
Fellow y t u = (u ≡ t) ⊎ CutPair y t u

-- the lead of a class: its lowest track number
abbrev pub Lowest : (ℕ → Bool) → ℕ → Type 0
Lowest S t = In S t × ((u : ℕ) → In S u → t ≤ u)

-- t is in a class with this lead and this size
pub record InClass (y : List Track) (t lead size : ℕ) : Type 0 where
  pub members : ℕ → Bool
  pub is_class : CutClass y members
  pub is_in : In members t
  pub lead_is : Lowest members lead
  pub size_is : Count (In members) (length y) size

-- t is in no class
abbrev pub InNoClass : List Track → ℕ → Type 0
InNoClass y t = (S : ℕ → Bool) → CutClass y S → In S t → ⊥

-- t is the lead of a class
abbrev pub LeadsClass : List Track → ℕ → Type 0
LeadsClass y t = (size : ℕ) × InClass y t t size

-- how many bridges, classes and cut pairs there are; a class is counted at its lead
abbrev pub BridgeCount : List Track → ℕ → Type 0
BridgeCount y n = Count (Bridge y) (length y) n

abbrev pub ClassCount : List Track → ℕ → Type 0
ClassCount y n = Count (LeadsClass y) (length y) n

abbrev pub CutPairCount : List Track → ℕ → Type 0
CutPairCount y n = PairCount (CutPair y) (length y) n
