use Rattle.std.proofs.Common.{◌≡◌, ℕ, ◌<◌, ◌≤◌, true, false, List, length, get_or, set, sym, refl, ap, ◌∙◌, subst, inl, inr, ⊎_elim, arith}
use Rattle.std.proofs.lemmas.List.{get_or-set_same, get_or-set_other, length-set}
use Rattle.std.proofs.lemmas.Bool.{cases_eq, true≢false}
use Rattle.network.specs.declared.track.Track.{Track}
use Rattle.graph.specs.Degrees.{flagged}
use Rattle.graph.specs.Forests.{InForest}
use Rattle.graph.specs.Yards.{track}
use Rattle.graph.proofs.Fronts.{blank}
use Rattle.labelling.specs.Degrees.{degree_at}
use Rattle.labelling.specs.declared.degrees.Degree.{Degree}
use Rattle.labelling.specs.declared.leaves.Leaves.{Leaves}
use Rattle.labelling.proofs.Counted.{fewer, at_both, both_changed, there, first_low, second_low, other_kept, some_at, fewer_degrees}
use Rattle.labelling.proofs.Points.{yard_few, read_is}
use Rattle.yard.specs.Meaning.{yard_tracks}
use Rattle.labelling.proofs.leaves.Leaves.take_off.Goals as goal

-- a track that is left, as it is read, and what stands at its ends
module _ (s : Leaves) (t : ℕ) (flag : flagged s.left t ≡ true) (ts : List Track) (same : ts ≡ yard_tracks s.yard.now) where
  abbrev y : List Track
  y = yard_tracks s.yard.now

  forest : InForest y t
  forest = s.forest t flag

  low : t < length y
  low = there y s.yard.now.points s.left t flag forest s.degrees s.whole

  is : get_or ts t blank ≡ track y t
  is = read_is s.yard.now ts same t (omega (arith, low, ap length same))

  in_left : t < length s.left
  in_left = let few = yard_few s.yard.now in let room = s.room in omega (arith, low)

  some_first : 1 ≤ (degree_at s.degrees (get_or ts t blank).first).count
  some_first = subst (λ (x : Track). 1 ≤ (degree_at s.degrees x.first).count) (sym is)
      (some_at y s.yard.now.points s.left t flag forest s.degrees s.whole in_left (length y) low s.counted _ (first_low y s.yard.now.points s.left t flag forest s.degrees s.whole) (inl refl))

  some_second : (d : Degree) → 1 ≤ (degree_at (set s.degrees (get_or ts t blank).first d) (get_or ts t blank).second).count
  some_second d = subst (λ (x : Track). 1 ≤ (degree_at (set s.degrees x.first d) x.second).count) (sym is)
      (subst (λ (e : Degree). 1 ≤ e.count) (sym (other_kept y s.yard.now.points s.left t flag forest s.degrees s.whole _ d refl))
      (some_at y s.yard.now.points s.left t flag forest s.degrees s.whole in_left (length y) low s.counted _ (second_low y s.yard.now.points s.left t flag forest s.degrees s.whole) (inr refl)))

  still : (u : ℕ) → flagged (set s.left t false) u ≡ true → InForest y u
  still u f =
      ⊎_elim
      (λ e. absurd (true≢false (sym f ∙ ap (flagged (set s.left t false)) e ∙ get_or-set_same s.left t false false in_left)))
      (λ ne. s.forest u (sym (get_or-set_other s.left t u false false ne) ∙ f))
      (cases_eq u t)

pub remove-requires : goal.remove-requires
remove-requires c = some_first c.args.self.now c.args.number c.requires _ c.tracks.ensures

pub remove-requires-2 : goal.remove-requires-2
remove-requires-2 c = some_second c.args.self.now c.args.number c.requires _ c.tracks.ensures _

pub invariant_of-self : goal.invariant_of-self
invariant_of-self c =
    let s = c.args.self.now in
    let t = c.args.number in
    let x = get_or c.tracks.result.now t blank in
    let both = both_changed (fewer t) x.first x.second s.degrees _ _ (ap (set s.degrees x.first) c.remove.ensures) (ap (set (set s.degrees x.first c.remove.new.self) x.second) c.remove-2.ensures) in
    record {
      room = length-set _ _ _ ∙ s.room;
      whole = length-set _ _ _ ∙ length-set _ _ _ ∙ s.whole;
      forest = still s t c.requires _ c.tracks.ensures;
      counted = fewer_degrees (yard_tracks s.yard.now) s.yard.now.points s.left t c.requires (s.forest t c.requires) s.degrees s.whole (in_left s t c.requires _ c.tracks.ensures) (length (yard_tracks s.yard.now)) (low s t c.requires _ c.tracks.ensures) s.counted _
          (subst (λ (z : Track). set (set s.degrees x.first c.remove.new.self) x.second c.remove-2.new.self ≡ at_both (fewer t) z.first z.second s.degrees) (is s t c.requires _ c.tracks.ensures) both);
    }
