-- The lines that the program labels prints. Assumes nothing.
use Rattle.std.specs.Prelude.{ℕ, zero, suc, ◌+◌, Bool, cond, List, [], ◌∷◌, ◌++◌, codes, decimal}
use Rattle.network.specs.declared.track.Track.{Track}
use Rattle.label.specs.declared.xor.Xor.{Xor}
use Rattle.label.specs.declared.sum.Sum32.{Sum32}
use Rattle.label.specs.declared.both.Both.{Both}
use Rattle.label.specs.Kinds.{xors, sums, pairs}
use Rattle.graph.specs.Yards.{track}
use Rattle.circulation.specs.Labels.{label}
use Rattle.listing.specs.Rows.{csv_line, state_word}

-- the header
abbrev pub header : List ℕ
header = csv_line (codes "track" ∷ codes "first" ∷ codes "second" ∷ codes "state" ∷ codes "X" ∷ codes "S" ∷ codes "B left" ∷ codes "B right" ∷ [])

-- fields of a line of CSV that others follow
abbrev pub fields : List (List ℕ) → List ℕ
fields [] = []
fields (f ∷ fs) = f ++ (44 ∷ fields fs)

-- the track k: its number, its points and its state; numbers are printed one higher than inside
abbrev pub track_fields : ℕ → Track → List ℕ
track_fields k t = fields (decimal (k + 1) ∷ decimal (t.first + 1) ∷ decimal (t.second + 1) ∷ state_word t.shut ∷ [])

-- the labels of a track
abbrev pub label_fields : Xor → Sum32 → Both Xor Sum32 → List ℕ
label_fields x s b = csv_line (decimal x.bits ∷ decimal s.value ∷ decimal b.left.bits ∷ decimal b.right.value ∷ [])

-- the line of the track k with its labels
abbrev pub row : ℕ → Track → Xor → Sum32 → Both Xor Sum32 → List ℕ
row k t x s b = track_fields k t ++ label_fields x s b

-- the lines of the tracks below n
abbrev pub rows : List Track → List Xor → List Sum32 → List (Both Xor Sum32) → ℕ → List ℕ
rows ts xs ss bs zero = []
rows ts xs ss bs (suc n) = rows ts xs ss bs n ++ row n (track ts n) (label xors xs n) (label sums ss n) (label (pairs xors sums) bs n)

-- the words for whether labels balance
abbrev pub balance_words : Bool → List ℕ
balance_words balanced = cond balanced (codes "they balance") (codes "they do not balance")

-- the last line: drew labels: tracks T, words needed W, words given G, they balance
abbrev pub summary_line : ℕ → ℕ → ℕ → Bool → List ℕ
summary_line tracks needed given balanced =
    codes "drew labels: tracks " ++ (decimal tracks
    ++ (codes ", words needed " ++ (decimal needed
    ++ (codes ", words given " ++ (decimal given
    ++ (codes ", " ++ (balance_words balanced ++ (13 ∷ 10 ∷ []))))))))

-- the lines where words are too few: refused R, and words needed W, words given G
abbrev pub too_few_text : ℕ → ℕ → ℕ → List ℕ
too_few_text number needed given =
    codes "refused " ++ (decimal number
    ++ (codes "\r\nwords needed " ++ (decimal needed
    ++ (codes ", words given " ++ (decimal given ++ (13 ∷ 10 ∷ []))))))
