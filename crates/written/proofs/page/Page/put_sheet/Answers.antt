use Rattle.std.proofs.Common.{◌≤◌, arith}
use Rattle.written.proofs.Rows.{underway_start, underway_more, underway_end}
use Rattle.written.proofs.page.Page.put_sheet.Goals as goal

pub loop-number-init : goal.loop-number-init
loop-number-init c =
    let short : c.put.new.self.at ≤ 30 = let behind = c.put.ensures.put.behind in let front = c.requires.front in omega arith in
    underway_start c.args.tracks.now c.args.marks.now c.put.ensures short c.requires.few (cc) (cc) (cc)

pub loop-number-preserved : goal.loop-number-preserved
loop-number-preserved c =
    underway_more c.loop-number.number-iterator c.next.new.self _ _ c.in-Some.is c.next.ensures.steps c.loop-number.invariant c.put_line.ensures.put c.put_line.ensures.short

pub returns-clause-put : goal.returns-clause-put
returns-clause-put c = underway_end c.loop-number.number-iterator c.next.new.self _ c.in-None.is c.next.ensures.steps c.loop-number.invariant
