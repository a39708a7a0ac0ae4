use Rattle.std.proofs.Common.{◌≡◌, ℕ, ◌+◌, ◌<◌, ◌≤◌, false, length, sym, refl, ◌∙◌, subst, inl, arith}
use Rattle.std.proofs.lemmas.Bool.Decides.{not_from_Decides}
use Rattle.graph.specs.Classes.{Fellow}
use Rattle.graph.specs.Counts.{Count, start}
use Rattle.graph.specs.Yards.{Open}
use Rattle.graph.proofs.Counting.{one_more, none_more, lowest_more, lowest_same}
use Rattle.graph.proofs.Classing.{found_class, found_none}
use Rattle.yard.specs.Meaning.{yard_tracks}
use Rattle.yard.proofs.Yard.class_of.Goals as goal
use Rattle.yard.proofs.Yard.class_of.Goals.{then-is_fellow, else-is_fellow}

pub loop-other-init : goal.loop-other-init
loop-other-init c = (omega arith, start, inl refl, λ k h. absurd (omega arith))

pub loop-other-preserved : goal.loop-other-preserved
loop-other-preserved c =
    let P : ℕ → Type 0 = Fellow (yard_tracks c.args.self.now) c.args.number in
    let k = c.loop-other.other in
    let few = c.loop-other.invariant.0 in
    elim c.if-is_fellow.branch [
      | then-is_fellow w ↦
          let p = w.if-is_fellow.ensures.0 refl in
          let low = lowest_more P c.loop-other.lead k c.if-is_fellow.lead (w.lead-is ∙ w.min-lead.ensures) c.loop-other.invariant.2 p c.loop-other.invariant.3 in
          (omega (arith, w.size-is), subst (Count P (k + 1)) (sym w.size-is) (one_more P k c.loop-other.size c.loop-other.invariant.1 p), low.0, low.1)
      | else-is_fellow w ↦
          let n : ¬ P k = not_from_Decides false w.if-is_fellow.ensures refl in (
            omega (arith, w.size-is),
            subst (Count P (k + 1)) (sym w.size-is) (none_more P k c.loop-other.size c.loop-other.invariant.1 n),
            subst P (sym w.lead-is) c.loop-other.invariant.2,
            subst (λ lead. (j : ℕ) → j < k + 1 → P j → lead ≤ j) (sym w.lead-is) (lowest_same P c.loop-other.lead k n c.loop-other.invariant.3),
          )
    ]

pub returns-then-size-lt2 : goal.returns-then-size-lt2
returns-then-size-lt2 c =
    let y = yard_tracks c.args.self.now in
    let low : c.args.number < length y = c.in_ok-is_bridge.ensures.0 in
    let all : c.loop-other.other ≡ length y = omega arith in
    let is_open : Open y c.args.number = c.if-not-is_open.ensures.0 refl in
    (low, found_none y c.args.number c.loop-other.size is_open c.if-size-lt2.true (subst (λ n. Count (Fellow y c.args.number) n c.loop-other.size) all c.loop-other.invariant.1))

pub returns : goal.returns
returns c =
    let y = yard_tracks c.args.self.now in
    let low : c.args.number < length y = c.in_ok-is_bridge.ensures.0 in
    let all : c.loop-other.other ≡ length y = omega arith in
    let is_open : Open y c.args.number = c.if-not-is_open.ensures.0 refl in
    (low, found_class y c.args.number c.loop-other.lead c.loop-other.size is_open c.if-size-lt2.false (subst (λ n. Count (Fellow y c.args.number) n c.loop-other.size) all c.loop-other.invariant.1) c.loop-other.invariant.2 (λ k h f. c.loop-other.invariant.3 k (omega arith) f))
