-- The marks that leads give. Assumes nothing.
use Rattle.std.specs.Prelude.{◌≡◌, ℕ, ◌<◌, Bool, true, false, cond, List, length, Option, Some, None, nat_lt, slice_index}
use Rattle.network.specs.declared.track.Track.{Track}
use Rattle.graph.specs.Counts.{Count}
use Rattle.graph.specs.Yards.{track}
use Rattle.sheet.specs.declared.mark.Mark.{Mark}
use Rattle.sheet.specs.declared.mark.Mark.TheVariants.{Shut, Single, Mates, Alone}
use Rattle.sheet.specs.Marks.{mark_at}
use Rattle.judging.specs.Leads.{lead}

-- of a track, open or shut, with a lead or none, where s tracks have that lead
abbrev pub mark_by : Bool → Option ℕ → ℕ → Mark
mark_by true o s = Shut
mark_by false None s = Single
mark_by false (Some l) s = cond (nat_lt s 2) Alone (Mates l s)

-- a list has at the place of each lead how many of the tracks below n have it
abbrev pub Sized : List (Option ℕ) → List ℕ → ℕ → Type 0
Sized leads sizes n = (l : ℕ) → l < 2048 → Count (λ t. lead leads t ≡ Some l) n (slice_index sizes l)

-- what such a list has for a lead, or 0 for none
abbrev pub size_of : List ℕ → Option ℕ → ℕ
size_of sizes None = 0
size_of sizes (Some l) = slice_index sizes l

-- the track t has the mark that its lead gives, s being how many tracks of y have the same lead
pub record MarkedAt (y : List Track) (leads : List (Option ℕ)) (ms : List Mark) (t : ℕ) : Type 0 where
  pub led : (l s : ℕ) → lead leads t ≡ Some l → Count (λ u. lead leads u ≡ Some l) (length y) s → mark_at ms t ≡ mark_by (track y t).shut (Some l) s
  pub free : lead leads t ≡ None → mark_at ms t ≡ mark_by (track y t).shut None 0

-- so have the tracks below n
abbrev pub Marked : List Track → List (Option ℕ) → List Mark → ℕ → Type 0
Marked y leads ms n = (t : ℕ) → t < n → MarkedAt y leads ms t
