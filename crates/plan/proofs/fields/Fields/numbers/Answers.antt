-- Each way out of `numbers`: a fault of the first number, of the second, of what follows, or both numbers. Assumes nothing.
use Rattle.std.proofs.Common.{Ok, Err, sym, ap, ◌∙◌}
use Rattle.std.proofs.lemmas.Result.{err_from_is_err_and}
use Rattle.layout.specs.Layout.{fields}
use Rattle.layout.proofs.Numbers.{bad_first, bad_second, after_second, chain}
use Rattle.plan.proofs.fields.Fields.numbers.Goals as goal

pub returns-in_err-first : goal.returns-in_err-first
returns-in_err-first c =
    let p = err_from_is_err_and c.from_residual.result c.from_residual.ensures.1 in
    p.1 ∙ ap Err p.2 ∙ bad_first c.args.low c.args.highs.0 c.args.highs.1 (fields c.args.self.now.rest.now) _ c.in_err-first.ensures.value

pub returns-in_err-second : goal.returns-in_err-second
returns-in_err-second c =
    let p = err_from_is_err_and c.from_residual-in_err-second.result c.from_residual-in_err-second.ensures.1 in
    p.1 ∙ ap Err p.2
    ∙ bad_second c.args.low c.args.highs.0 c.args.highs.1 (fields c.args.self.now.rest.now)
    c.in_ok-first.first (fields c.number.new.self.rest.now) _
    c.in_ok-first.ensures.value c.in_ok-first.ensures.rest c.in_err-second.ensures.value

pub returns-in_err-end : goal.returns-in_err-end
returns-in_err-end c =
    let p = err_from_is_err_and c.from_residual-in_err-end.result c.from_residual-in_err-end.ensures.1 in
    let m = c.in_ok-first.first in
    let n = c.in_ok-second.second in
    p.1 ∙ ap Err p.2 ∙ ap (chain (Ok m) (Ok n)) c.in_err-end.ensures
    ∙ sym (after_second c.args.low c.args.highs.0 c.args.highs.1 (fields c.args.self.now.rest.now)
    m n (fields c.number.new.self.rest.now) (fields c.number-2.new.self.rest.now)
    c.in_ok-first.ensures.value c.in_ok-first.ensures.rest c.in_ok-second.ensures.value c.in_ok-second.ensures.rest)

pub returns : goal.returns
returns c =
    let m = c.in_ok-first.first in
    let n = c.in_ok-second.second in
    ap (chain (Ok m) (Ok n)) {x = Ok tt} c.in_ok-end.ensures
    ∙ sym (after_second c.args.low c.args.highs.0 c.args.highs.1 (fields c.args.self.now.rest.now)
    m n (fields c.number.new.self.rest.now) (fields c.number-2.new.self.rest.now)
    c.in_ok-first.ensures.value c.in_ok-first.ensures.rest c.in_ok-second.ensures.value c.in_ok-second.ensures.rest)
