use Rattle.std.proofs.Common.{◌<◌, arith}
use Rattle.written.proofs.Figures.{puts_zero, puts_digit, digit_place, decimal_short}
use Rattle.written.proofs.page.Page.+put_number.Goals as goal

pub returns-then-number-eq0-clause-put : goal.returns-then-number-eq0-clause-put
returns-then-number-eq0-clause-put t c = puts_zero c.args.self.now c.args.number c.if-number-eq0.true

pub put-requires : goal.put-requires
put-requires t c =
    let some : 0 < c.args.number = omega arith in
    omega (arith, digit_place c.args.number some c.requires.1 c.put_number.ensures.put)

pub returns : goal.returns
returns t c =
    let some : 0 < c.args.number = omega arith in
    let all = puts_digit c.args.number some c.put_number.ensures.put c.put.ensures in
    record { put = all; short = let behind = all.put.behind in omega (arith, decimal_short c.args.number c.requires.1) }
