-- A written sheet read back. Assumes nothing.
use Rattle.std.specs.Prelude.{◌≡◌, ℕ, ◌+◌, ◌-◌, ◌<◌, Bool, true, false, cond, ◌&&◌, ◌||◌, List, [], ◌∷◌, ◌++◌, map, drop, Some, None, codes, Option, ◌==◌, slice_index, slice_index_or}
use Rattle.std.specs.Int.Digits.{number_from_digits}
use Rattle.network.specs.declared.track.Track.{Track}
use Rattle.sheet.specs.declared.mark.Mark.{Mark}
use Rattle.sheet.specs.declared.mark.Mark.TheVariants.{Shut, Single, Mates, Alone}
use Rattle.written.specs.Lines.{decimal, sheet_text}

-- the parts of a text, each ended by a byte that passes the test; `part` is what is read of the first
abbrev pub parts : (ℕ → Bool) → List ℕ → List ℕ → List (List ℕ)
parts ends part [] = []
parts ends part (x ∷ xs) = cond (ends x) (part ∷ parts ends [] xs) (parts ends (part ++ (x ∷ [])) xs)

-- a line feed ends a line; a comma or a CR ends a field
abbrev pub ends_line : ℕ → Bool
ends_line x = x == 10

abbrev pub ends_field : ℕ → Bool
ends_field x = x == 44 || x == 13

-- the number inside that a field tells: one lower than its digits say
abbrev pub number_in : List ℕ → ℕ
number_in field = number_from_digits 10 (map (λ c. c - 48) field) - 1

-- whether two fields are the same
abbrev pub same_field : List ℕ → List ℕ → Bool
same_field [] [] = true
same_field [] (y ∷ ys) = false
same_field (x ∷ xs) [] = false
same_field (x ∷ xs) (y ∷ ys) = x == y && same_field xs ys

-- the mark that a word and a lead tell, with no size; None for another word
abbrev pub mark_in : List ℕ → List ℕ → Option Mark
mark_in word lead =
    cond (same_field word (codes "shut")) (Some Shut)
    (cond (same_field word (codes "single")) (Some Single)
    (cond (same_field word (codes "mates")) (Some (Mates (number_in lead) 0))
    (cond (same_field word (codes "alone")) (Some Alone) None)))

-- what a line tells: the track, its points and its mark
pub record Row : Type 0 where
  pub track : ℕ
  pub first : ℕ
  pub second : ℕ
  pub mark : Option Mark

-- what a line's five fields tell
abbrev pub row_in : List (List ℕ) → Row
row_in fields = record {
  track = number_in (slice_index_or fields 0 []);
  first = number_in (slice_index_or fields 1 []);
  second = number_in (slice_index_or fields 2 []);
  mark = mark_in (slice_index_or fields 3 []) (slice_index_or fields 4 []);
}

-- what the lines after the header tell
abbrev pub read_back : List ℕ → List Row
read_back text = map (λ l. row_in (parts ends_field [] l)) (drop 1 (parts ends_line [] text))

-- a mark without the size of its class, which no line tells
abbrev pub unsized : Mark → Mark
unsized Shut = Shut
unsized Single = Single
unsized (Mates lead size) = Mates lead 0
unsized Alone = Alone

-- what is to be told of tracks and their marks, the first of which has the number k
abbrev pub told : ℕ → List Track → List Mark → List Row
told k [] ms = []
told k (t ∷ ts) [] = []
told k (t ∷ ts) (m ∷ ms) = record { track = k; first = t.first; second = t.second; mark = Some (unsized m) } ∷ told (k + 1) ts ms

-- no number is written with a leading zero
abbrev pub NoLeadingZero : Type 0
NoLeadingZero = (n : ℕ) → 48 < slice_index (decimal (n + 1)) 0

-- reading a written sheet gives each track, its points and its mark
abbrev pub ReadsBack : Type 0
ReadsBack = (ts : List Track) (ms : List Mark) → read_back (sheet_text ts ms) ≡ told 0 ts ms
