-- Yards, as lists of tracks: which points they join, and which tracks part them. Assumes nothing.
use Rattle.std.specs.Prelude.{◌≡◌, ℕ, zero, suc, Bool, true, false, cond, not, ◌||◌, ◌≢◌, ◌⊎◌, List, [], ◌∷◌, ◌==◌, slice_index_or}
use Rattle.network.specs.declared.track.Track.{Track}

-- a number that no track has stands for a shut one
abbrev pub none : Track
none = record { first = 0; second = 0; shut = true }

-- the track with the number t
abbrev pub track : List Track → ℕ → Track
track y t = slice_index_or y t none

-- there is a track t, and it is open
abbrev pub Open : List Track → ℕ → Type 0
Open y t = (track y t).shut ≡ false

-- a and b are the two ends of x, in either order
abbrev pub Ends : Track → ℕ → ℕ → Type 0
Ends x a b = ((x.first ≡ a) × (x.second ≡ b)) ⊎ ((x.first ≡ b) × (x.second ≡ a))

-- an open track has the ends a and b
pub record Link (y : List Track) (a b : ℕ) : Type 0 where
  pub number : ℕ
  pub is_open : Open y number
  pub ends : Ends (track y number) a b

-- a chain of open tracks leads from a to b; a point is joined to itself
pub data Joined (y : List Track) (a : ℕ) : ℕ → Type 0 where
  here : Joined y a a
  along : {b c : ℕ} → Joined y a b → Link y b c → Joined y a c

-- a track once it is shut
abbrev pub closed : Track → Track
closed x = record { first = x.first; second = x.second; shut = true }

-- the yard with every track shut that is not to be kept
abbrev pub only : (ℕ → Bool) → List Track → List Track
only keep [] = []
only keep (x ∷ y) = cond (keep zero) x (closed x) ∷ only (λ t. keep (suc t)) y

-- whether t is one of these numbers
abbrev pub among : ℕ → List ℕ → Bool
among t [] = false
among t (u ∷ us) = t == u || among t us

-- the yard with the tracks ts shut as well
abbrev pub shut_also : List Track → List ℕ → List Track
shut_also y ts = only (λ t. not (among t ts)) y

-- the tracks ts part the yard: some two points that are joined now are not joined once ts are shut as well
abbrev pub Parts : List Track → List ℕ → Type 0
Parts y ts = (a b : ℕ) × Joined y a b × ¬ Joined (shut_also y ts) a b

-- a bridge (a single lead): an open track that parts the yard by itself
abbrev pub Bridge : List Track → ℕ → Type 0
Bridge y t = Open y t × Parts y (t ∷ [])

-- a cut pair (mates): two different open tracks, neither a bridge, that part the yard together
pub record CutPair (y : List Track) (t u : ℕ) : Type 0 where
  pub different : t ≢ u
  pub open_first : Open y t
  pub open_second : Open y u
  pub not_bridge_first : ¬ Bridge y t
  pub not_bridge_second : ¬ Bridge y u
  pub parting : Parts y (t ∷ u ∷ [])

-- the two ends of the track t are joined with the tracks ts shut
abbrev pub Around : List Track → List ℕ → ℕ → Type 0
Around y ts t = Joined (shut_also y ts) (track y t).first (track y t).second
