-- The records of a yard, as they are read and with some shut. Assumes nothing.
use Rattle.std.proofs.Common.{◌≡◌, ℕ, ◌<◌, true, false, cond, not, List, length, get_or, sym, ap, ◌∙◌, subst}
use Rattle.network.specs.Tracks.{no_track, Within, Points}
use Rattle.network.specs.declared.track.Track.{Track}
use Rattle.graph.specs.Yards.{track, closed, among, shut_also}
use Rattle.graph.proofs.Fronts.{read}
use Rattle.graph.proofs.Subyards.{length_only, track_only}

module _ (y : List Track) (k : ℕ) (h : k < length y) where
  pub is_track : (x : Track) → x ≡ get_or y k x → x ≡ track y k
  is_track x e = e ∙ read y k x h

  pub track_within : Points y → Within (track y k)
  track_within p = subst Within (read y k no_track h) (p k h)

-- an item of the list that a loop goes over
module _ (y items : List Track) (is : items ≡ y) (k : ℕ) (h : k < length items) where
  pub item_low : k < length y
  item_low = subst (λ l. k < length l) is h

  pub item_is : get_or items k no_track ≡ track y k
  item_is = ap (λ l. get_or l k no_track) is ∙ read y k no_track item_low

  pub item_within : Points y → Within (get_or items k no_track)
  item_within p = subst Within (sym item_is) (track_within y k item_low p)

pub length_shut_also : (y : List Track) (ts : List ℕ) → length (shut_also y ts) ≡ length y
length_shut_also y ts = length_only (λ t. not (among t ts)) y

module _ (y : List Track) (ts : List ℕ) (k : ℕ) where
  pub track_shut : among k ts ≡ true → track (shut_also y ts) k ≡ closed (track y k)
  track_shut e = track_only _ y k ∙ ap (λ b. cond (not b) (track y k) (closed (track y k))) e

  pub track_kept : among k ts ≡ false → track (shut_also y ts) k ≡ track y k
  track_kept e = track_only _ y k ∙ ap (λ b. cond (not b) (track y k) (closed (track y k))) e
