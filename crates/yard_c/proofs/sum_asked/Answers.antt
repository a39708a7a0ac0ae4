use Rattle.std.proofs.Common.{refl, arith}
use Rattle.std.specs.Fn.{FnReturnsAt}
use Rattle.std.proofs.iter.Next.{says_at}
use Rattle.yard_c.proofs.Sums.{timed_more}
use Rattle.yard_c.proofs.sum_asked.Goals as goal

pub overflow_add-sum : goal.overflow_add-sum
overflow_add-sum g c = let few = c.requires.count.few _ _ (says_at g.F.Fn c.ask.ensures refl) in let had = c.loop-turn.invariant.2 in omega arith

pub loop-turn-preserved : goal.loop-turn-preserved
loop-turn-preserved g c =
    let y = c.args.yard.now in
    let told = says_at g.F.Fn c.ask.ensures refl in
    let few = c.requires.count.few y _ told in
    let had = c.loop-turn.invariant in
    (had.0, timed_more (FnReturnsAt g.F.Fn c.args.ask y) (c.requires.count.one y) _ _ _ had.1 told, omega arith)
