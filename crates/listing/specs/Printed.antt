-- What the program tracktable prints. Assumes nothing.
use Rattle.std.specs.Prelude.{◌≡◌, ℕ, ◌<◌, ◌≤◌, List, length, Ok, Err}
use Rattle.network.specs.Refusals.{refusal_number}
use Rattle.layout.specs.Plans.{Reading, plan_of}
use Rattle.listing.specs.Rows.{TableText, refused_text}

-- the table of a plan, or the line for the first fault of a file that is none
abbrev pub ReadingText : Reading → List ℕ → Type 0
ReadingText (Ok plan) text = TableText plan.0 plan.1 text
ReadingText (Err fault) text = text ≡ refused_text (refusal_number fault.refusal) fault.line

-- the same of a file; more than 65,536 bytes are 13 at line 0, whatever they say
pub record Printed (bytes text : List ℕ) : Type 0 where
  pub read : length bytes ≤ 65536 → ReadingText (plan_of bytes) text
  pub unread : 65536 < length bytes → text ≡ refused_text 13 0
