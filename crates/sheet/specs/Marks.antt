-- Marks of tracks: what the definitions give, and what every sheet keeps. Assumes nothing.
use Rattle.std.specs.Prelude.{◌≡◌, ℕ, ◌<◌, ◌≤◌, Bool, true, false, List, length, slice_index_or}
use Rattle.network.specs.declared.track.Track.{Track}
use Rattle.graph.specs.Classes.{InClass, InNoClass}
use Rattle.graph.specs.Yards.{track, Open, Bridge}
use Rattle.sheet.specs.declared.mark.Mark.{Mark}
use Rattle.sheet.specs.declared.mark.Mark.TheVariants.{Shut, Single, Mates, Alone}

-- the mark that the definitions give the track t of y: shut; a bridge; in a class with this lead and size; or open and none of these
abbrev pub MarkOf : List Track → ℕ → Mark → Type 0
MarkOf y t Shut = (track y t).shut ≡ true
MarkOf y t Single = Bridge y t
MarkOf y t (Mates lead size) = InClass y t lead size
MarkOf y t Alone = Open y t × (¬ Bridge y t) × InNoClass y t

-- the mark of the track t
abbrev pub mark_at : List Mark → ℕ → Mark
mark_at ms t = slice_index_or ms t Shut

-- the marks are those of y: one for each track, as the definitions give it
pub record MarksOf (y : List Track) (ms : List Mark) : Type 0 where
  pub one_each : length ms ≡ length y
  pub each : (t : ℕ) → t < length y → MarkOf y t (mark_at ms t)

-- whether a mark is mates, and its lead and size
abbrev pub is_mates : Mark → Bool
is_mates Shut = false
is_mates Single = false
is_mates (Mates lead size) = true
is_mates Alone = false

abbrev pub lead_in : Mark → ℕ
lead_in Shut = 0
lead_in Single = 0
lead_in (Mates lead size) = lead
lead_in Alone = 0

abbrev pub size_in : Mark → ℕ
size_in Shut = 0
size_in Single = 0
size_in (Mates lead size) = size
size_in Alone = 0

-- where the track t is marked mates, its lead is not above it, and is marked mates with itself as lead and the same size
abbrev pub LedWell : List Mark → ℕ → Type 0
LedWell ms t =
    let own = mark_at ms t in
    let first = mark_at ms (lead_in own) in
    (lead_in own ≤ t) × (is_mates first ≡ true) × (lead_in first ≡ lead_in own) × (size_in first ≡ size_in own)

abbrev pub WellLed : List Mark → Type 0
WellLed ms = (t : ℕ) → is_mates (mark_at ms t) ≡ true → LedWell ms t

-- a track has one mark by the definitions, so that a yard has one list of marks
pub record MarkLaws : Type 0 where
  pub one_mark : (y : List Track) (t : ℕ) (m n : Mark) → MarkOf y t m → MarkOf y t n → m ≡ n
  pub one_list : (y : List Track) (ms ns : List Mark) → MarksOf y ms → MarksOf y ns → ms ≡ ns
