use Rattle.std.proofs.Common.{◌≡◌, ◌++◌, length, vec_items, string_bytes}
use Rattle.labels.specs.Rows.{header, rows}
use Rattle.labels.proofs.Steps.{AllLabelled}
use Rattle.labels.proofs.text.rows_text.Given as goal

-- the loop goes over all tracks with their labels, and the lines of those so far are written
abbrev pub invariant-loop-number : goal.invariant-loop-number
invariant-loop-number l =
    AllLabelled l.tracks (vec_items l.drawn.xors) (vec_items l.drawn.sums) (vec_items l.drawn.pairs) l.initial.number-iterator
    × (string_bytes l.text ≡ header ++ rows l.tracks (vec_items l.drawn.xors) (vec_items l.drawn.sums) (vec_items l.drawn.pairs) (length l.yielded))
