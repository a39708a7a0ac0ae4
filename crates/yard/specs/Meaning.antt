-- What a yard means. Assumes nothing.
use Rattle.std.specs.Prelude.{List, vec_items}
use Rattle.network.specs.declared.track.Track.{Track}
use Rattle.yard.specs.declared.Yard.{Yard}

-- the tracks of a yard, in rising number
abbrev pub yard_tracks : Yard → List Track
yard_tracks y = vec_items y.records
