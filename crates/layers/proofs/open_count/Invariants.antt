use Rattle.std.proofs.Common.{◌≡◌, ◌+◌, ◌≤◌, drop}
use Rattle.layers.specs.Counts.{open_count}
use Rattle.layers.proofs.open_count.Given as goal

abbrev pub invariant-loop-track : goal.invariant-loop-track
invariant-loop-track g l = (l.open ≤ l.track) × (l.open + open_count (drop l.track (g.N.Network.tracks l.network)) ≡ open_count (g.N.Network.tracks l.network))
