-- The layout's faults as a relation: which line of a file is the first faulty one, and what is wrong with it. Assumes nothing.
use Rattle.std.specs.Prelude.{◌≡◌, ℕ, ◌+◌, ◌<◌, ◌≤◌, List, [], ◌∷◌, ◌++◌, length, Ok, Err, codes, Result}
use Rattle.network.specs.Refusals.{refusal_number}
use Rattle.network.specs.declared.track.Track.{Track}
use Rattle.layout.specs.declared.faults.FileFault.{FileFault}
use Rattle.layout.specs.declared.line.Place.{Place}
use Rattle.layout.specs.declared.line.Place.TheVariants.{Start, Within}
use Rattle.layout.specs.Grammar.{Lines, gap, Apart, Begins, CommentLine, ProblemLine, EdgeLine, Says}

-- p, one or more spaces, the word edge, and then nothing or a space
pub record NamesEdge (l : List ℕ) : Type 0 where
  pub before_word : ℕ
  pub rest : List ℕ
  pub written : l ≡ codes "p" ++ (gap before_word ++ (codes "edge" ++ rest))
  pub apart : Apart rest

-- the known kinds of line
pub data Known (l : List ℕ) : Type 0 where
  comment : CommentLine l → Known l
  problem : NamesEdge l → Known l
  edge : Begins (codes "e") l → Known l

-- a line out of place: a problem line that is not the first, an edge before the problem line, or one more than that said
pub data Misplaced : Place → List ℕ → Type 0 where
  second_problem : (points edges laid : ℕ) (l : List ℕ) → NamesEdge l → Misplaced (Within points edges laid) l
  early_edge : (l : List ℕ) → Begins (codes "e") l → Misplaced Start l
  extra_edge : (points edges laid : ℕ) (l : List ℕ) → Begins (codes "e") l → edges ≤ laid → Misplaced (Within points edges laid) l

-- a line in place that is not written as its kind asks
pub data WrongNumbers : Place → List ℕ → Type 0 where
  problem : (l : List ℕ) → NamesEdge l → ((points edges : ℕ) → ProblemLine l points edges → ⊥) → WrongNumbers Start l
  edge : (points edges laid : ℕ) (l : List ℕ) → Begins (codes "e") l → laid < edges → ((m n : ℕ) → EdgeLine points l m n → ⊥) → WrongNumbers (Within points edges laid) l

-- the fault of a line at a place: 12 for no known kind, 13 for a line out of place, 14 for a wrong number
pub data Fault (place : Place) (l : List ℕ) : ℕ → Type 0 where
  unknown : (Known l → ⊥) → Fault place l 12
  misplaced : Misplaced place l → Fault place l 13
  wrong_number : WrongNumbers place l → Fault place l 14

-- lines without a fault lead from a place to a place
pub data Leads : List (List ℕ) → Place → Place → Type 0 where
  no_line : (place : Place) → Leads [] place place
  comment : (l : List ℕ) (ls : List (List ℕ)) (place there : Place) → CommentLine l → Leads ls place there → Leads (l ∷ ls) place there
  problem : (l : List ℕ) (ls : List (List ℕ)) (points edges : ℕ) (there : Place) → ProblemLine l points edges → Leads ls (Within points edges 0) there
      → Leads (l ∷ ls) Start there
  edge : (l : List ℕ) (ls : List (List ℕ)) (points edges laid m n : ℕ) (there : Place) → laid < edges → EdgeLine points l m n → Leads ls (Within points edges (laid + 1)) there
      → Leads (l ∷ ls) (Within points edges laid) there

-- a place where a plan may not end: the problem line is missing, or edges are
pub data Incomplete : Place → Type 0 where
  no_problem : Incomplete Start
  too_few : (points edges laid : ℕ) → laid < edges → Incomplete (Within points edges laid)

-- the first fault of a file, by its number and its line: a line that has a fault where the lines before it lead, or 13 after the last line
pub data Faulty (bytes : List ℕ) : ℕ → ℕ → Type 0 where
  in_line : (before after : List (List ℕ)) (l : List ℕ) (place : Place) (number : ℕ) → Lines bytes (before ++ l ∷ after) → Leads before Start place → Fault place l number
      → Faulty bytes number (length before + 1)
  at_end : (ls : List (List ℕ)) (place : Place) → Lines bytes ls → Leads ls Start place → Incomplete place → Faulty bytes 13 (length ls + 1)

-- an answer that refuses a file by this number at this line
pub record RefusedAt (answer : Result ℕ FileFault) (number line : ℕ) : Type 0 where
  pub fault : FileFault
  pub is : answer ≡ Err fault
  pub by_number : refusal_number fault.refusal ≡ number
  pub at_line : fault.line ≡ line

-- the law of reading: a file is accepted exactly if it is a plan, with its points and its tracks, and refused exactly by its first fault, with no tracks
pub record Answered (bytes : List ℕ) (answer : Result ℕ FileFault) (tracks : List Track) : Type 0 where
  pub accepted_only : (points : ℕ) → answer ≡ Ok points → Says bytes points tracks
  pub accepted_every : (points : ℕ) (ts : List Track) → Says bytes points ts → (answer ≡ Ok points) × (tracks ≡ ts)
  pub refused_only : (fault : FileFault) → answer ≡ Err fault → Faulty bytes (refusal_number fault.refusal) fault.line × (tracks ≡ [])
  pub refused_every : (number line : ℕ) → Faulty bytes number line → RefusedAt answer number line
