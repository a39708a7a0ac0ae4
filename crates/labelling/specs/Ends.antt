-- The ends of tracks. Assumes nothing.
use Rattle.std.specs.Prelude.{ℕ, Bool}
use Rattle.network.specs.declared.track.Track.{Track}
use Rattle.labelling.specs.declared.ends.End.{End}
use Rattle.labelling.specs.declared.ends.End.TheVariants.{First, Second}
use Rattle.circulation.specs.Labels.{leaves_from, enters_at}

-- the point at this end of x
abbrev pub end_of : End → Track → ℕ
end_of First x = x.first
end_of Second x = x.second

-- x is open, and p is that end of it
abbrev pub at_end : End → ℕ → Track → Bool
at_end First = leaves_from
at_end Second = enters_at
