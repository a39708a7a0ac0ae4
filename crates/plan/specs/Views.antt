-- What the references in an answer point to. Assumes nothing.
use Rattle.std.specs.Prelude.{ℕ, List, Some, None, Option}
use Rattle.std.specs.Borrow.{Bor}

-- the bytes of a text that may be missing
abbrev pub first_text : Option (Bor (List ℕ)) → Option (List ℕ)
first_text None = None
first_text (Some t) = Some t.now
