-- A network whose points are stood for by others, by the tracks below. Assumes nothing.
use Rattle.std.specs.Prelude.{◌≡◌, ℕ, ◌<◌, Bool, List, length, get_or, Some, None, Option, slice_index, slice_index_or, slice_set, refl}
use Rattle.std.proofs.Common.{sym, ap, subst, ◌∙◌, ⊎_elim, arith, zero-add}
use Rattle.std.specs.Option.{option_map}
use Rattle.std.proofs.lemmas.List.FromFn.{get_or-range_with_len}
use Rattle.std.proofs.lemmas.List.{length-map, get_or-map, get_or-set_same, get_or-set_other, set_past, ext_get_or}
use Rattle.std.proofs.lemmas.Bool.{cases_lt, cases_eq}
use Rattle.network.specs.Tracks.{no_track, each_point, Within, Points, Limits, track_at, ends_of, ends_at, open_of, open_at, state_answer, state_after}
use Rattle.network.specs.declared.track.Track.{Track}
use Rattle.network.proofs.Layers.{at_map, answer_map, after_map}
use Rattle.tied.specs.Standing.{stand_in, Standing, retied, tied}

pub standing_set : (stands : List ℕ) (point by : ℕ) → Standing stands → by < 512 → Standing (slice_set stands point by)
standing_set stands point by s h k =
    ⊎_elim
    (λ l.
    ⊎_elim
    (λ e. subst (λ i. slice_index (slice_set stands point by) i < 512) (sym e) (subst (λ p. p < 512) (sym (get_or-set_same stands point by 0 l)) h))
    (λ e. subst (λ p. p < 512) (sym (get_or-set_other stands point k by 0 e)) (s k))
    (cases_eq k point))
    (λ l. subst (λ xs. slice_index xs k < 512) (sym (set_past stands point by l)) (s k))
    (cases_lt point (length stands))

itself : (p : ℕ) → p < 512 → stand_in each_point p ≡ p
itself p h = get_or-range_with_len 0 512 p 0 h ∙ zero-add p

abbrev joins : Bool → ℕ → ℕ → Track
joins shut first second = record { first = first; second = second; shut = shut }

-- where each point stands for itself, the tracks are those below
pub tied_itself : (ts : List Track) → Points ts → tied each_point ts ≡ ts
tied_itself ts p =
    let long = length-map ts (retied each_point) in
    ext_get_or no_track (tied each_point ts) ts long
    (λ k h. let near : k < length ts = omega arith in get_or-map (retied each_point) ts k no_track no_track near ∙ same (slice_index_or ts k no_track) (p k near))
  where
    same : (t : Track) → Within t → retied each_point t ≡ t
    same t w = ap (λ q. joins t.shut q (stand_in each_point t.second)) (itself t.first w.0) ∙ ap (joins t.shut t.first) (itself t.second w.1)

-- the points that stand for two points
abbrev pub both : List ℕ → ℕ × ℕ → ℕ × ℕ
both stands p = (stand_in stands p.0, stand_in stands p.1)

module _ (stands : List ℕ) (ts : List Track) where
  pub length_tied : length ts ≡ length (tied stands ts)
  length_tied = sym (length-map ts (retied stands))

  pub limits_tied : Standing stands → Limits ts → Limits (tied stands ts)
  limits_tied s l =
      let long = length_tied in
      let most = l.few in
      record {
        few = omega arith;
        points = λ k h. let near : k < length ts = omega arith in subst Within (sym (get_or-map (retied stands) ts k no_track no_track near)) (s (get_or ts k no_track).first, s (get_or ts k no_track).second);
      }

  retied_ends : (o : Option Track) → ends_of (option_map (retied stands) o) ≡ option_map (both stands) (ends_of o)
  retied_ends None = refl
  retied_ends (Some t) = refl

  retied_open : (o : Option Track) → open_of (option_map (retied stands) o) ≡ open_of o
  retied_open None = refl
  retied_open (Some t) = refl

  pub ends_tied : (k : ℕ) → ends_at (tied stands ts) k ≡ option_map (both stands) (ends_at ts k)
  ends_tied k = ap ends_of (at_map (retied stands) (λ t. refl) ts k) ∙ retied_ends (track_at ts k)

  pub open_tied : (k : ℕ) → open_at ts k ≡ open_at (tied stands ts) k
  open_tied k = sym (ap open_of (at_map (retied stands) (λ t. refl) ts k) ∙ retied_open (track_at ts k))

  pub answer_tied : (shut : Bool) (k : ℕ) → state_answer shut ts k ≡ state_answer shut (tied stands ts) k
  answer_tied shut k = sym (answer_map (retied stands) (λ t. refl) shut ts k)

  pub after_tied : (shut : Bool) (k : ℕ) → tied stands (state_after shut ts k) ≡ state_after shut (tied stands ts) k
  after_tied shut k = sym (after_map (retied stands) (λ t. refl) (λ b t. refl) shut ts k)
