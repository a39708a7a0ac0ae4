-- A table keeps to the limits of a network. Assumes nothing.
use Rattle.std.specs.Prelude.{ℕ, ◌≤◌}
use Rattle.std.proofs.Common.{subst}
use Rattle.network.specs.Tracks.{Limits}
use Rattle.table.specs.declared.Table.{Table}
use Rattle.table.specs.Laying.{table_tracks}

pub limits_table : (t : Table) → Limits (table_tracks t)
limits_table t = record { few = subst (λ (n : ℕ). n ≤ 2048) t.records.ok.0 t.few; points = t.points }
