-- What the program labels prints. Assumes nothing.
use Rattle.std.specs.Prelude.{◌≡◌, ℕ, ◌<◌, ◌≤◌, true, List, ◌++◌, length, Ok, Err}
use Rattle.network.specs.Refusals.{refusal_number}
use Rattle.network.specs.declared.track.Track.{Track}
use Rattle.label.specs.declared.xor.Xor.{Xor}
use Rattle.label.specs.declared.sum.Sum32.{Sum32}
use Rattle.label.specs.declared.both.Both.{Both}
use Rattle.graph.specs.Forests.{WordsNeeded}
use Rattle.layout.specs.Plans.{Reading, plan_of}
use Rattle.listing.specs.Rows.{refused_text}
use Rattle.labels.specs.Draws.{Labels}
use Rattle.labels.specs.Rows.{header, rows, summary_line, too_few_text}

-- the labels that the words draw, as text
pub record Drawing (words : List ℕ) (ts : List Track) (needed : ℕ) (text : List ℕ) : Type 0 where
  pub xs : List Xor
  pub ss : List Sum32
  pub bs : List (Both Xor Sum32)
  pub labels : Labels words ts xs ss bs
  pub written : text ≡ header ++ (rows ts xs ss bs (length ts) ++ summary_line (length ts) needed (length words) true)

-- what is printed for these tracks: the labels that the words draw, or that there are too few words
pub record LabelsText (words : List ℕ) (ts : List Track) (text : List ℕ) : Type 0 where
  pub needed : ℕ
  pub needed_are : WordsNeeded ts needed
  pub enough : needed ≤ length words → Drawing words ts needed text
  pub few : length words < needed → text ≡ too_few_text 8 needed (length words)

-- the same of a plan, or the line for the first fault of a file that is none
abbrev pub ReadingText : List ℕ → Reading → List ℕ → Type 0
ReadingText words (Ok plan) text = LabelsText words plan.1 text
ReadingText words (Err fault) text = text ≡ refused_text (refusal_number fault.refusal) fault.line

-- the same of a file; more than 65,536 bytes are 13 at line 0, whatever they say
pub record Printed (words bytes text : List ℕ) : Type 0 where
  pub read : length bytes ≤ 65536 → ReadingText words (plan_of bytes) text
  pub unread : 65536 < length bytes → text ≡ refused_text 13 0
