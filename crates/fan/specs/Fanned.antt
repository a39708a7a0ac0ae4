-- What a fan means. Assumes nothing.
use Rattle.std.specs.Prelude.{List}
use Rattle.network.specs.declared.track.Track.{Track}
use Rattle.fan.specs.Roads.{fanned}
use Rattle.fan.specs.declared.Fan.{Fan}

-- the tracks of a fan, by the number of its roads and the state of each track
abbrev pub fan_tracks : Fan → List Track
fan_tracks f = fanned f.roads f.shut
