use Rattle.std.proofs.Common.{◌≡◌, ℕ, ◌+◌, ◌-◌, ◌<◌, ◌≢◌, List, length, get_or, sym, ap, ◌∙◌, arith}
use Rattle.std.proofs.lemmas.List.{get_or_read}
use Rattle.graph.specs.Yards.{track}
use Rattle.label.specs.Groups.{Group}
use Rattle.circulation.specs.Chains.{highest}
use Rattle.circulation.proofs.Chains.{Along, highest_le, total_below, along_low, along_picked, along_more, along_done}
use Rattle.labelling.specs.Ends.{at_end}
use Rattle.labelling.specs.declared.chains.Chains.{Chains}
use Rattle.labelling.proofs.Points.{yard_few}
use Rattle.yard.specs.Meaning.{yard_tracks}
use Rattle.labelling.proofs.chains.Chains.sum_at.Goals as goal

-- the track that is reached, and the next one
module _ {K : Type 0} (G : Group K) (ks : List K) (s : Chains) (p : ℕ) {so_far : K} {at : ℕ} (a : Along G ks (λ t. at_end s.end p (track (yard_tracks s.yard.now) t)) (length (yard_tracks s.yard.now)) so_far at) (some : at ≢ 0) where
  is : at ≡ at - 1 + 1
  is = omega arith

  low : at - 1 < length (yard_tracks s.yard.now)
  low = along_low G ks _ _ a (at - 1) is

  next : get_or s.links (at - 1) 0 ≡ highest (λ t. at_end s.end p (track (yard_tracks s.yard.now) t)) (at - 1)
  next = s.chained.1 p (at - 1) low (along_picked G ks _ _ a (at - 1) is)

pub offset_bounds-labels-track : goal.offset_bounds-labels-track
offset_bounds-labels-track g c = let h = low _ _ c.args.self.now _ c.loop-at.invariant c.loop-at-test.true in let long = c.requires.long in omega arith

pub bounds-labels-track : goal.bounds-labels-track
bounds-labels-track g c = let h = low _ _ c.args.self.now _ c.loop-at.invariant c.loop-at-test.true in let long = c.requires.long in omega arith

pub bounds-self-track : goal.bounds-self-track
bounds-self-track g c =
    let h = low _ _ c.args.self.now _ c.loop-at.invariant c.loop-at-test.true in let few = yard_few c.args.self.now.yard.now in omega arith

pub loop-at-smaller : goal.loop-at-smaller
loop-at-smaller g c =
    let some : c.loop-at.at ≢ 0 = c.loop-at-test.true in
    omega (arith, next _ _ c.args.self.now _ c.loop-at.invariant some, highest_le (λ t. at_end c.args.self.now.end c.args.point (track (yard_tracks c.args.self.now.yard.now) t)) (c.loop-at.at - 1))

pub loop-at-preserved : goal.loop-at-preserved
loop-at-preserved g c =
    let here = low _ _ c.args.self.now _ c.loop-at.invariant c.loop-at-test.true in
    along_more _ _ _ _ c.loop-at.invariant (c.loop-at.at - 1) (is _ _ c.args.self.now _ c.loop-at.invariant c.loop-at-test.true) c.sum-sum.result _
    (c.sum-sum.ensures ∙ ap (g.K.Label.group.sum c.loop-at.sum) (get_or_read c.args.labels.now _ _ (let long = c.requires.long in omega arith) c.index-labels-track.is g.K.Label.group.zero))
    (next _ _ c.args.self.now _ c.loop-at.invariant c.loop-at-test.true)

pub returns : goal.returns
returns g c =
    along_done _ _ _ _ c.loop-at.invariant (omega arith)
    ∙ sym (total_below g.K.Label.group (at_end c.args.self.now.end c.args.point) (yard_tracks c.args.self.now.yard.now) c.args.labels.now c.requires.long)
