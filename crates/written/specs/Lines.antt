-- The written sheet: tracks and their marks as CSV, with a header. Assumes nothing.
use Rattle.std.specs.Prelude.{ℕ, ◌+◌, List, [], ◌∷◌, ◌++◌, map, codes}
use Rattle.std.specs.Int.Digits.{digits_of}
use Rattle.network.specs.declared.track.Track.{Track}
use Rattle.sheet.specs.declared.mark.Mark.{Mark}
use Rattle.sheet.specs.declared.mark.Mark.TheVariants.{Shut, Single, Mates, Alone}

-- a line of CSV: its fields, parted by commas, and CR LF
abbrev pub csv_line : List (List ℕ) → List ℕ
csv_line [] = 13 ∷ 10 ∷ []
csv_line (f ∷ []) = f ++ (13 ∷ 10 ∷ [])
csv_line (f ∷ g ∷ fs) = f ++ (44 ∷ csv_line (g ∷ fs))

-- the header
abbrev pub header : List ℕ
header = csv_line (codes "track" ∷ codes "first" ∷ codes "second" ∷ codes "mark" ∷ codes "lead" ∷ [])

-- the decimal digits of a number above 0, the highest first, which is no zero
unfoldable pub decimal : ℕ → List ℕ
decimal n = map (λ d. 48 + d) (digits_of 10 n)

-- the word of a mark
abbrev pub mark_word : Mark → List ℕ
mark_word Shut = codes "shut"
mark_word Single = codes "single"
mark_word (Mates lead size) = codes "mates"
mark_word Alone = codes "alone"

-- the lead of a mark, one higher than inside; nothing for a mark that is not mates
abbrev pub lead_field : Mark → List ℕ
lead_field Shut = []
lead_field Single = []
lead_field (Mates lead size) = decimal (lead + 1)
lead_field Alone = []

-- the line of the track k: its number, its points, its mark and its lead; numbers are written one higher than inside
unfoldable pub line : ℕ → Track → Mark → List ℕ
line k t m = csv_line (decimal (k + 1) ∷ decimal (t.first + 1) ∷ decimal (t.second + 1) ∷ mark_word m ∷ lead_field m ∷ [])

-- the lines of tracks with their marks, as many as the shorter list has elements; the first has the number k
abbrev pub lines : ℕ → List Track → List Mark → List ℕ
lines k [] ms = []
lines k (t ∷ ts) [] = []
lines k (t ∷ ts) (m ∷ ms) = line k t m ++ lines (k + 1) ts ms

-- the text: the header, and the lines of all tracks and marks
unfoldable pub sheet_text : List Track → List Mark → List ℕ
sheet_text ts ms = header ++ lines 0 ts ms
