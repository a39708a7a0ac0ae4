-- The ends of tracks: whether they are at a point, and that those of a yard are points. Assumes nothing.
use Rattle.std.proofs.Common.{◌≡◌, ℕ, ◌<◌, ◌≤◌, true, false, ◌≢◌, List, length, get_or, sym, refl, ap, ◌∙◌, arith}
use Rattle.std.proofs.lemmas.Bool.{and_left, and_right, and_from, and_parts, not_from_true, not_from_false, not-true, eq-eqb, ne_eqb, eqb-true}
use Rattle.network.specs.Tracks.{Points}
use Rattle.network.specs.declared.track.Track.{Track}
use Rattle.graph.specs.Yards.{track}
use Rattle.graph.proofs.Fronts.{blank, read}
use Rattle.labelling.specs.Ends.{end_of, at_end}
use Rattle.labelling.specs.declared.ends.End.{End}
use Rattle.labelling.specs.declared.ends.End.TheVariants.{First, Second}
use Rattle.yard.specs.declared.Yard.{Yard}
use Rattle.yard.specs.Meaning.{yard_tracks}
use Rattle.yard.proofs.Records.{track_within}

-- an open track is at its own end, and at no other point; a shut one at none
pub open_at_end : (end : End) (x : Track) → x.shut ≡ false → at_end end (end_of end x) x ≡ true
open_at_end First x o = and_from _ _ (not_from_false _ o) (eq-eqb x.first _ refl)
open_at_end Second x o = and_from _ _ (not_from_false _ o) (eq-eqb x.second _ refl)

pub not_at_end : (end : End) (p : ℕ) (x : Track) → p ≢ end_of end x → at_end end p x ≡ false
not_at_end First p x ne = and_right _ _ (ne_eqb x.first p (λ e. ne (sym e)))
not_at_end Second p x ne = and_right _ _ (ne_eqb x.second p (λ e. ne (sym e)))

pub shut_at_end : (end : End) (p : ℕ) (x : Track) → x.shut ≡ true → at_end end p x ≡ false
shut_at_end First p x s = and_left _ _ (not_from_true _ s)
shut_at_end Second p x s = and_left _ _ (not_from_true _ s)

pub end_told : (end : End) (p : ℕ) (x : Track) → at_end end p x ≡ true → (x.shut ≡ false) × (end_of end x ≡ p)
end_told First p x e = let w = and_parts _ _ e in (not-true _ w.0, eqb-true x.first p w.1)
end_told Second p x e = let w = and_parts _ _ e in (not-true _ w.0, eqb-true x.second p w.1)

pub end_low : (y : List Track) (end : End) (t : ℕ) → t < length y → Points y → end_of end (track y t) < 512
end_low y First t h points = (track_within y t h points).0
end_low y Second t h points = (track_within y t h points).1

-- a yard has at most 2,048 tracks
pub yard_few : (y : Yard) → length (yard_tracks y) ≤ 2048
yard_few y = let few = y.few in omega (arith, y.records.ok.0)

-- a track of a yard as code reads it
module _ (y : Yard) (ts : List Track) (is : ts ≡ yard_tracks y) (n : ℕ) (low : n < length ts) where
  pub read_low : n < length (yard_tracks y)
  read_low = omega (arith, ap length is)

  pub read_is : get_or ts n blank ≡ track (yard_tracks y) n
  read_is = ap (λ (z : List Track). get_or z n blank) is ∙ read (yard_tracks y) n blank read_low
