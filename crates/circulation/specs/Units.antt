-- Words of one bit each, for 64 chords at a time. Assumes nothing.
use Rattle.std.specs.Prelude.{ℕ, ◌/◌, ◌%◌, ◌^◌, cond, ◌==◌}
use Rattle.label.specs.declared.xor.Xor.{Xor}
use Rattle.label.specs.Kinds.{word_label}

-- in the round r, the word i has one bit where i / 64 is r, the bit i % 64, and none elsewhere
abbrev pub unit_word : ℕ → ℕ → ℕ
unit_word r i = cond (i / 64 == r) (2 ^ (i % 64)) 0

-- what these words draw in kind X
abbrev pub units : ℕ → ℕ → Xor
units r i = word_label (unit_word r i)
