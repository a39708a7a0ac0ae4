-- Writing a text into a caller's bytes. Assumes nothing.
use Rattle.std.specs.Prelude.{◌≡◌, ℕ, suc, ◌+◌, cond, List, [], ◌∷◌, ◌++◌, length, drop, Ok, Err, Result, nat_lt, slice_set}

-- the answer to a call that is to write a text into bytes: how long the text is, or 15 where the bytes are too few
abbrev pub write_answer : List ℕ → List ℕ → Result ℕ ℕ
write_answer text bytes = cond (nat_lt (length bytes) (length text)) (Err 15) (Ok (length text))

-- the bytes after the call: the text and the bytes beyond it; all as they were where they are too few
abbrev pub bytes_after : List ℕ → List ℕ → List ℕ
bytes_after text bytes = cond (nat_lt (length bytes) (length text)) bytes (text ++ drop (length text) bytes)

-- the bytes with a piece put over them from a place on, so far as they reach
abbrev pub over : List ℕ → ℕ → List ℕ → List ℕ
over bytes place [] = bytes
over bytes place (x ∷ xs) = over (slice_set bytes place x) (suc place) xs

-- a piece was put over the bytes at a place: what they hold after it, and the place behind it
pub record Put (bytes : List ℕ) (place : ℕ) (piece after : List ℕ) (next : ℕ) : Type 0 where
  pub behind : next ≡ place + length piece
  pub held : after ≡ over bytes place piece
