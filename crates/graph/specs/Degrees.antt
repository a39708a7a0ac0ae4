-- The tracks at a point of which some are left: how many, the exclusive or of their numbers, and whether one is alone. Assumes nothing.
use Rattle.std.specs.Prelude.{◌≡◌, ℕ, zero, suc, Bool, true, false, cond, ◌&&◌, ◌||◌, List, ◌==◌, bit_xor, slice_index_or}
use Rattle.network.specs.declared.track.Track.{Track}
use Rattle.graph.specs.Forests.{Touches}
use Rattle.graph.specs.Yards.{track}

-- whether a list of flags has t
abbrev pub flagged : List Bool → ℕ → Bool
flagged left t = slice_index_or left t false

-- of the tracks that are left, t alone has the end p
pub record Alone (y : List Track) (left : List Bool) (p t : ℕ) : Type 0 where
  pub flag : flagged left t ≡ true
  pub touches : Touches y t p
  pub only : (u : ℕ) → flagged left u ≡ true → Touches y u p → u ≡ t

-- no track that is left is alone at p
abbrev pub NoneAlone : List Track → List Bool → ℕ → Type 0
NoneAlone y left p = (t : ℕ) → ¬ Alone y left p t

-- whether t is left and has the end p
abbrev pub left_at : List Track → List Bool → ℕ → ℕ → Bool
left_at y left p t = flagged left t && ((track y t).first == p || (track y t).second == p)

-- how many numbers below n are picked
abbrev pub how_many : (ℕ → Bool) → ℕ → ℕ
how_many pick zero = 0
how_many pick (suc n) = cond (pick n) (suc (how_many pick n)) (how_many pick n)

-- the exclusive or of these numbers
abbrev pub xor_of : (ℕ → Bool) → ℕ → ℕ
xor_of pick zero = 0
xor_of pick (suc n) = cond (pick n) (bit_xor (xor_of pick n) n) (xor_of pick n)
