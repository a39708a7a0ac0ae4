-- A network's tracks as text: CSV with a header, and a line that counts them. Assumes nothing.
use Rattle.std.specs.Prelude.{◌≡◌, ℕ, ◌+◌, Bool, cond, List, [], ◌∷◌, ◌++◌, length, count_by, codes, decimal, ◌==◌}
use Rattle.network.specs.declared.track.Track.{Track}
use Rattle.graph.specs.Forests.{WordsNeeded}
use Rattle.graph.specs.Groups.{GroupCount}

-- a line of CSV: its fields, parted by commas, and CR LF
abbrev pub csv_line : List (List ℕ) → List ℕ
csv_line [] = 13 ∷ 10 ∷ []
csv_line (f ∷ []) = f ++ (13 ∷ 10 ∷ [])
csv_line (f ∷ g ∷ fs) = f ++ (44 ∷ csv_line (g ∷ fs))

-- the header
abbrev pub header : List ℕ
header = csv_line (codes "track" ∷ codes "first" ∷ codes "second" ∷ codes "state" ∷ [])

-- the word for the state of a track
abbrev pub state_word : Bool → List ℕ
state_word shut = cond shut (codes "shut") (codes "open")

-- the line of the track k: its number, its points and its state; numbers are printed one higher than inside
abbrev pub row : ℕ → Track → List ℕ
row k t = csv_line (decimal (k + 1) ∷ decimal (t.first + 1) ∷ decimal (t.second + 1) ∷ state_word t.shut ∷ [])

-- the fields of a track at the front of its line: its number, as it is printed, its points and its state
abbrev pub fields_text : ℕ → Track → List ℕ
fields_text number t = decimal number ++ (44 ∷ (decimal (t.first + 1) ++ (44 ∷ (decimal (t.second + 1) ++ (44 ∷ state_word t.shut)))))

-- the lines of tracks, of which the first has the number k
abbrev pub rows : ℕ → List Track → List ℕ
rows k [] = []
rows k (t ∷ ts) = row k t ++ rows (k + 1) ts

-- how many of the tracks are loops
abbrev pub loop_count : List Track → ℕ
loop_count ts = count_by (λ t. t.first == t.second) ts

-- the last line: read a plan: tracks T, points P, loops L, groups G, words W
abbrev pub summary_line : ℕ → ℕ → ℕ → ℕ → ℕ → List ℕ
summary_line tracks points loops groups words =
    codes "read a plan: tracks " ++ (decimal tracks
    ++ (codes ", points " ++ (decimal points
    ++ (codes ", loops " ++ (decimal loops
    ++ (codes ", groups " ++ (decimal groups
    ++ (codes ", words " ++ (decimal words ++ (13 ∷ 10 ∷ []))))))))))

-- the text is the whole table of a plan with so many points and these tracks: the groups and the words are the yard's
pub record TableText (points : ℕ) (ts : List Track) (text : List ℕ) : Type 0 where
  pub groups : ℕ
  pub words : ℕ
  pub groups_are : GroupCount ts groups
  pub words_are : WordsNeeded ts words
  pub written : text ≡ header ++ (rows 0 ts ++ summary_line (length ts) points (loop_count ts) groups words)

-- the line for a refusal, with its number and the number of the line: refused R L
abbrev pub refused_text : ℕ → ℕ → List ℕ
refused_text number line = codes "refused " ++ (decimal number ++ (codes " " ++ (decimal line ++ (13 ∷ 10 ∷ []))))
