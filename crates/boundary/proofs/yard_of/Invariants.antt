use Rattle.std.proofs.Common.{◌≡◌, take}
use Rattle.table.specs.Laying.{table_tracks}
use Rattle.boundary.proofs.yard_of.Given as goal

-- the tracks so far are laid
abbrev pub invariant-loop-one : goal.invariant-loop-one
invariant-loop-one l = table_tracks l.table ≡ take l.one-index l.tracks
