use Rattle.std.proofs.Common.{◌≡◌, ◌≤◌, take, vec_items, vec_len, vec_capacity}
use Rattle.yard.proofs.Yard.of.Given as goal

-- the records are the tracks below the number, and there is room for all
abbrev pub invariant-loop-number : goal.invariant-loop-number
invariant-loop-number g l =
    (vec_len l.records ≡ l.number)
    × (l.count ≤ vec_capacity l.records)
    × (vec_items l.records ≡ take l.number (g.N.Network.tracks l.network))
