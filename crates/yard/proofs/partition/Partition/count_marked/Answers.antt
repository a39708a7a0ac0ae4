use Rattle.std.proofs.Common.{length, false, sym, ◌∙◌, subst, arith}
use lib.ListN.{length-replicate}
use Rattle.std.proofs.lemmas.List.{get_or-replicate, length_push}
use Rattle.std.proofs.lemmas.Bool.{true≢false}
use Rattle.std.proofs.lemmas.Slice.Zip.{zip_turn}
use Rattle.graph.specs.Counts.{start}
use Rattle.yard.proofs.Marked.{Counted, counted_first, counted_other}
use Rattle.yard.proofs.partition.Partition.count_marked.Goals as goal

pub loop-rep-init : goal.loop-rep-init
loop-rep-init c = (
  omega arith,
  length-replicate 512 false,
  λ v h. (λ e. absurd (true≢false (sym e ∙ get_or-replicate 512 v false false h)), λ b. absurd (omega (arith, b.1))),
  start,
)

pub loop-rep-preserved-then-is_first : goal.loop-rep-preserved-then-is_first
loop-rep-preserved-then-is_first c =
    let reps = c.args.self.now.reps in
    let turn = zip_turn reps c.args.marked.now c.loop-rep.yielded _ _ c.next.new.self _ (cc) (cc) c.loop-rep.yielded_by _ c.in-Some.is c.next.ensures.steps in
    let k = length c.loop-rep.yielded in
    subst (Counted reps c.args.marked.now _ _) (sym (length_push c.loop-rep.yielded _))
    (counted_first reps c.args.marked.now c.loop-rep.seen c.loop-rep.count k _ _ (c.args.self.now.within k) (turn.2 0) (turn.3 false) c.loop-rep.invariant c.if-is_first.ensures)

pub loop-rep-preserved : goal.loop-rep-preserved
loop-rep-preserved c =
    let reps = c.args.self.now.reps in
    let turn = zip_turn reps c.args.marked.now c.loop-rep.yielded _ _ c.next.new.self _ (cc) (cc) c.loop-rep.yielded_by _ c.in-Some.is c.next.ensures.steps in
    let k = length c.loop-rep.yielded in
    subst (Counted reps c.args.marked.now _ _) (sym (length_push c.loop-rep.yielded _))
    (counted_other reps c.args.marked.now c.loop-rep.seen c.loop-rep.count k _ _ (c.args.self.now.within k) (turn.2 0) (turn.3 false) c.loop-rep.invariant c.if-is_first.ensures)
