use Rattle.std.proofs.Common.{◌≡◌, ◌++◌, drop, string_bytes}
use Rattle.listing.specs.Rows.{header, rows}
use Rattle.listing.proofs.rows_text.Given as goal

-- the lines before the track with this number are written
abbrev pub invariant-loop-number : goal.invariant-loop-number
invariant-loop-number l = string_bytes l.text ++ rows l.number (drop l.number l.tracks) ≡ header ++ rows 0 l.tracks
