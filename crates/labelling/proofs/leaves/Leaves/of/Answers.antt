use Rattle.std.proofs.Common.{◌≡◌, ℕ, ◌+◌, ◌<◌, List, length, get_or, set, sym, refl, ap, ◌∙◌, subst, arith}
use Rattle.std.proofs.lemmas.List.{get_or-replicate, length-set}
use Rattle.network.specs.declared.track.Track.{Track}
use Rattle.graph.specs.Degrees.{left_at}
use Rattle.graph.specs.Forests.{InForest}
use Rattle.graph.specs.Yards.{track}
use Rattle.graph.proofs.Degrees.{picked_same}
use Rattle.graph.proofs.Fronts.{blank}
use Rattle.graph.proofs.Peeled.{gone_here}
use Rattle.labelling.specs.Degrees.{degree_at, Degrees}
use Rattle.labelling.specs.declared.degrees.Degree.{Degree}
use Rattle.labelling.proofs.Counted.{more, at_both, both_changed, count_le, first_low, second_low, other_kept, more_degrees}
use Rattle.labelling.proofs.Points.{yard_few, read_low, read_is}
use Rattle.yard.specs.Meaning.{yard_tracks}
use Rattle.labelling.proofs.leaves.Leaves.of.Goals as goal
use Rattle.labelling.proofs.leaves.Leaves.of.Goals.{Then-left-number, then-left-number, else-left-number}

pub loop-number-init : goal.loop-number-init
loop-number-init c =
    let at = λ (p : ℕ) (h : p < 512). get_or-replicate {A = Degree} 512 p (record { count = 0; numbers = 0 }) (record { count = 0; numbers = 0 }) h in
    (refl, λ p h. (ap (λ d. d.count) (at p h), ap (λ d. d.numbers) (at p h)))

-- a track of the forest, as it is read, and what stands at its ends
module _ (c : Then-left-number) where
  abbrev y : List Track
  y = yard_tracks c.args.forest.now.yard.now

  abbrev n : ℕ
  n = c.loop-number.number

  forest : InForest y n
  forest = (c.args.forest.now.told n).0 c.if-left-number.true

  is : get_or c.tracks-one-items.result.now n blank ≡ track y n
  is = read_is c.args.forest.now.yard.now _ c.tracks-one-items.ensures n c.loop-number-test.true

  few : n < 2048
  few = let all = yard_few c.args.forest.now.yard.now in omega (arith, read_low c.args.forest.now.yard.now _ c.tracks-one-items.ensures n c.loop-number-test.true)

  room : (p : ℕ) → p < 512 → (degree_at c.loop-number.degrees p).count < 2048
  room p h = omega (arith, few, count_le y c.args.forest.now.flags c.loop-number.degrees n p c.loop-number.invariant.1 h)

  room_first : (degree_at c.loop-number.degrees (get_or c.tracks-one-items.result.now n blank).first).count < 2048
  room_first = subst (λ (x : Track). (degree_at c.loop-number.degrees x.first).count < 2048) (sym is) (room _ (first_low y c.args.forest.now.yard.now.points c.args.forest.now.flags n c.if-left-number.true forest c.loop-number.degrees c.loop-number.invariant.0))

  room_second : (d : Degree) → (degree_at (set c.loop-number.degrees (get_or c.tracks-one-items.result.now n blank).first d) (get_or c.tracks-one-items.result.now n blank).second).count < 2048
  room_second d = subst (λ (x : Track). (degree_at (set c.loop-number.degrees x.first d) x.second).count < 2048) (sym is) (
      let low = room _ (second_low y c.args.forest.now.yard.now.points c.args.forest.now.flags n c.if-left-number.true forest c.loop-number.degrees c.loop-number.invariant.0) in
      let same = other_kept y c.args.forest.now.yard.now.points c.args.forest.now.flags n c.if-left-number.true forest c.loop-number.degrees c.loop-number.invariant.0 _ d refl in
      subst (λ (e : Degree). e.count < 2048) (sym same) low
      )

pub add-requires : goal.add-requires
add-requires c = room_first (goal.at.add-requires c).Then-left-number

pub add-requires-then-left-number : goal.add-requires-then-left-number
add-requires-then-left-number c = room_second (goal.at.add-requires-then-left-number c).Then-left-number _

pub loop-number-preserved : goal.loop-number-preserved
loop-number-preserved c =
    let forest = c.args.forest.now in
    let y = yard_tracks forest.yard.now in
    let n = c.loop-number.number in
    let l = c.loop-number.degrees in
    let x = get_or c.tracks-one-items.result.now n blank in
    let is = read_is forest.yard.now _ c.tracks-one-items.ensures n c.loop-number-test.true in
    elim c.if-left-number.branch [
      | then-left-number w ↦
          let both = both_changed (more n) x.first x.second l _ _ (ap (set l x.first) w.add.ensures) (w.degrees-is ∙ ap (set (set l x.first w.add.new.self) x.second) w.add-then-left-number.ensures) in (
            ap length w.degrees-is ∙ length-set _ _ _ ∙ length-set _ _ _ ∙ c.loop-number.invariant.0,
            more_degrees y forest.yard.now.points forest.flags n w.if-left-number.true ((forest.told n).0 w.if-left-number.true) l c.loop-number.invariant.0 _
                (subst (λ (z : Track). c.if-left-number.degrees ≡ at_both (more n) z.first z.second l) is both) c.loop-number.invariant.1,
          )
      | else-left-number w ↦ (
        ap length w.degrees-is ∙ c.loop-number.invariant.0,
        subst (λ ds. Degrees y forest.flags ds (n + 1)) (sym w.degrees-is) (λ p h.
            let same = picked_same (left_at y forest.flags p) n (gone_here y forest.flags p n w.if-left-number.false) in
            let d = c.loop-number.invariant.1 p h in
            (d.0 ∙ sym same.0, d.1 ∙ sym same.1)),
      )
    ]
