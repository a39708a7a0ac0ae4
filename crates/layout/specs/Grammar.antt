-- The layout as a grammar: which files are plans, how many points they have, and which tracks. Assumes nothing.
use Rattle.std.specs.Prelude.{◌≡◌, ℕ, suc, ◌+◌, ◌*◌, ◌<◌, ◌≤◌, ◌⊎◌, List, [], ◌∷◌, ◌++◌, length, replicate, codes, ◌≢◌}
use Rattle.network.specs.Tracks.{open_track}
use Rattle.network.specs.declared.track.Track.{Track}

-- a text without a line feed, which is the byte 10
abbrev pub NoFeed : List ℕ → Type 0
NoFeed [] = Unit {0}
NoFeed (b ∷ bs) = (b ≢ 10) × NoFeed bs

-- the first line of these bytes, and the bytes after its line feed, which a last line may lack
pub data FirstLine (bytes line rest : List ℕ) : Type 0 where
  ended : NoFeed line → bytes ≡ line ++ (10 ∷ rest) → FirstLine bytes line rest
  last : NoFeed line → bytes ≡ line → rest ≡ [] → FirstLine bytes line rest

-- the lines of a file, of which an empty file has none
pub data Lines : List ℕ → List (List ℕ) → Type 0 where
  no_bytes : Lines [] []
  some_bytes : (bytes line rest : List ℕ) (ls : List (List ℕ)) → 0 < length bytes → FirstLine bytes line rest → Lines rest ls → Lines bytes (line ∷ ls)

-- one or more spaces, each the byte 32: one, and k more
abbrev pub gap : ℕ → List ℕ
gap k = replicate (suc k) 32

-- nothing, or a space and any text: what may follow a letter or a word
abbrev pub Apart : List ℕ → Type 0
Apart rest = (rest ≡ []) ⊎ ((more : List ℕ) × (rest ≡ 32 ∷ more))

-- a line begins with a letter, which is the whole line or has a space after it
pub record Begins (letter l : List ℕ) : Type 0 where
  pub rest : List ℕ
  pub written : l ≡ letter ++ rest
  pub apart : Apart rest

-- a comment: c and any text
abbrev pub CommentLine : List ℕ → Type 0
CommentLine l = Begins (codes "c") l

-- decimal digits, of which d is the byte 48 + d, and the number that they write
pub data Digits : List ℕ → ℕ → Type 0 where
  no_digit : Digits [] 0
  one_more : (v : List ℕ) (n d : ℕ) → Digits v n → d < 10 → Digits (v ++ (48 + d) ∷ []) (n * 10 + d)

-- a number is written in 1 to 4 digits, and zeros may lead
pub record Numeral (v : List ℕ) (n : ℕ) : Type 0 where
  pub digits : Digits v n
  pub some : 1 ≤ length v
  pub few : length v ≤ 4

-- p edge N E: the number of points N is at most 512, and that of edges E at most 2048
pub record ProblemLine (l : List ℕ) (points edges : ℕ) : Type 0 where
  pub before_word : ℕ
  pub before_first : ℕ
  pub before_second : ℕ
  pub first : List ℕ
  pub second : List ℕ
  pub written : l ≡ codes "p" ++ (gap before_word ++ (codes "edge" ++ (gap before_first ++ (first ++ (gap before_second ++ second)))))
  pub first_is : Numeral first points
  pub second_is : Numeral second edges
  pub few_points : points ≤ 512
  pub few_edges : edges ≤ 2048

-- e U V: two points of those that there are, which the file counts from 1, and m and n from 0
pub record EdgeLine (points : ℕ) (l : List ℕ) (m n : ℕ) : Type 0 where
  pub before_first : ℕ
  pub before_second : ℕ
  pub first : List ℕ
  pub second : List ℕ
  pub written : l ≡ codes "e" ++ (gap before_first ++ (first ++ (gap before_second ++ second)))
  pub first_is : Numeral first (m + 1)
  pub second_is : Numeral second (n + 1)
  pub first_point : m < points
  pub second_point : n < points

-- comments and edges, in any order
pub data Body (points : ℕ) : List (List ℕ) → List Track → Type 0 where
  no_line : Body points [] []
  comment : (l : List ℕ) (ls : List (List ℕ)) (ts : List Track) → CommentLine l → Body points ls ts → Body points (l ∷ ls) ts
  edge : (l : List ℕ) (ls : List (List ℕ)) (ts : List Track) (m n : ℕ) → EdgeLine points l m n → Body points ls ts → Body points (l ∷ ls) (open_track m n ∷ ts)

-- comments, the problem line, and then comments and as many edges as it says
pub data Plan : List (List ℕ) → ℕ → List Track → Type 0 where
  comment : (l : List ℕ) (ls : List (List ℕ)) (points : ℕ) (ts : List Track) → CommentLine l → Plan ls points ts → Plan (l ∷ ls) points ts
  problem : (l : List ℕ) (ls : List (List ℕ)) (points edges : ℕ) (ts : List Track) → ProblemLine l points edges → Body points ls ts → length ts ≡ edges → Plan (l ∷ ls) points ts

-- a file is a plan with so many points and these tracks
pub record Says (bytes : List ℕ) (points : ℕ) (ts : List Track) : Type 0 where
  pub ls : List (List ℕ)
  pub lines : Lines bytes ls
  pub plan : Plan ls points ts
