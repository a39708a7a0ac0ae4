-- What a pile of layers over a table means. Assumes nothing.
use Rattle.std.specs.Prelude.{List, vec_items}
use Rattle.network.specs.declared.track.Track.{Track}
use Rattle.table.specs.Laying.{table_tracks}
use Rattle.table.specs.declared.Table.{Table}
use Rattle.tied.specs.Standing.{tied}
use Rattle.tied.specs.declared.Tied.{Tied}
use Rattle.annex.specs.Annexed.{annexed}
use Rattle.annex.specs.declared.Annex.{Annex}

-- the tracks of the table, tied, and then those of the annex
abbrev pub pile_tracks : Annex (Tied Table) → List Track
pile_tracks p = annexed (tied p.below.stands (table_tracks p.below.below)) (vec_items p.own)
