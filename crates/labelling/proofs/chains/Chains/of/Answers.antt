use Rattle.std.proofs.Common.{◌≡◌, ℕ, ◌+◌, ◌<◌, true, false, List, length, get_or, set, replicate, sym, refl, ap, ◌∙◌, subst, arith}
use Rattle.std.proofs.lemmas.List.{get_or-replicate, length-set}
use Rattle.graph.specs.Yards.{track}
use Rattle.circulation.specs.Chains.{Chained}
use Rattle.circulation.proofs.Chains.{chained_none, chained_same, chained_more}
use Rattle.labelling.specs.Ends.{end_of, at_end}
use Rattle.labelling.proofs.Points.{open_at_end, not_at_end, shut_at_end, end_low, yard_few, read_low, read_is}
use Rattle.yard.specs.Meaning.{yard_tracks}
use Rattle.labelling.proofs.chains.Chains.of.Goals as goal
use Rattle.labelling.proofs.chains.Chains.of.Goals.{then-not-one, else-not-one}

pub loop-number-init : goal.loop-number-init
loop-number-init c =
    (refl, refl, chained_none (at_end c.args.end) (yard_tracks c.args.yard.now) (replicate 512 0) (replicate 2048 0) (λ p h. get_or-replicate 512 p 0 0 h))

pub loop-number-preserved : goal.loop-number-preserved
loop-number-preserved c =
    let y = yard_tracks c.args.yard.now in
    let n = c.loop-number.number in
    let heads = c.loop-number.heads in
    let links = c.loop-number.links in
    let there = read_low c.args.yard.now _ c.tracks-one-items.ensures n c.loop-number-test.true in
    let is = read_is c.args.yard.now _ c.tracks-one-items.ensures n c.loop-number-test.true in
    let Good : List ℕ → List ℕ → Type 0 = λ hs ls. (length hs ≡ 512) × (length ls ≡ 2048) × Chained (at_end c.args.end) y hs ls (n + 1) in
    elim c.if-not-one.branch [
      | then-not-one w ↦
          let is_open : (track y n).shut ≡ false = ap (λ x. x.shut) (sym is) ∙ w.if-not-one.true in
          let at_point : end_of c.args.end (track y n) ≡ w.of-point.result = ap (end_of c.args.end) (sym is) ∙ sym w.of-point.ensures in
          let low : w.of-point.result < 512 = omega (arith, end_low y c.args.end n there c.args.yard.now.points, at_point) in
          let own = subst (λ (p : ℕ). at_end c.args.end p (track y n) ≡ true) at_point (open_at_end c.args.end (track y n) is_open) in
          subst (λ ls. Good c.if-not-one.heads ls) (sym w.links-is)
          (subst (λ hs. Good hs (set links n (get_or heads w.of-point.result 0))) (sym w.heads-is) (
            length-set _ _ _ ∙ c.loop-number.invariant.0,
            length-set _ _ _ ∙ c.loop-number.invariant.1,
            chained_more (at_end c.args.end) y heads links n w.of-point.result low c.loop-number.invariant.0 (let few = yard_few c.args.yard.now in omega (arith, c.loop-number.invariant.1)) own (λ p ne. not_at_end c.args.end p (track y n) (λ e. ne (e ∙ at_point))) c.loop-number.invariant.2,
          ))
      | else-not-one w ↦
          let is-shut : (track y n).shut ≡ true = ap (λ x. x.shut) (sym is) ∙ w.if-not-one.false in
          subst (λ ls. Good c.if-not-one.heads ls) (sym w.links-is)
          (subst (λ hs. Good hs links) (sym w.heads-is) (c.loop-number.invariant.0, c.loop-number.invariant.1, chained_same (at_end c.args.end) y heads links n (λ p. shut_at_end c.args.end p (track y n) is-shut) c.loop-number.invariant.2))
    ]

pub invariant_of-result : goal.invariant_of-result
invariant_of-result c =
    let y = yard_tracks c.args.yard.now in
    let all : c.loop-number.number ≡ length y = omega (arith, ap length c.tracks-one-items.ensures) in
    record { whole = c.loop-number.invariant.0; room = c.loop-number.invariant.1; chained = subst (Chained (at_end c.args.end) y c.loop-number.heads c.loop-number.links) all c.loop-number.invariant.2 }
