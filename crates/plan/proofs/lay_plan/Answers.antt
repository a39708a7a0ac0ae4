-- The turns of the loop of `lay_plan`, and its ways out. Assumes nothing.
use Rattle.std.proofs.Common.{is_ok, Ok, Err, sym, ap, ◌∙◌}
use Rattle.std.proofs.lemmas.Result.{err_from_is_err_and}
use Rattle.table.specs.Laying.{table_tracks}
use Rattle.layout.specs.Contents.{content, next_content}
use Rattle.layout.specs.Layout.{lines}
use Rattle.layout.specs.Plans.{plan_of, onto, place_after, answer_to}
use Rattle.layout.proofs.Parts.{fewer_left}
use Rattle.layout.proofs.Splits.{lines_rest}
use Rattle.layout.proofs.Walks.{going_on, walk_fault}
use Rattle.plan.specs.Unread.{unread}
use Rattle.plan.proofs.Laid.{line_laid}
use Rattle.plan.proofs.lay_plan.Goals as goal

pub loop-line-preserved : goal.loop-line-preserved
loop-line-preserved c =
    let plan = plan_of c.args.bytes.now in
    let ts = table_tracks c.loop-line.table in
    let was = c.loop-line.reader in
    let next = c.next_line.new.self in
    let s = content c.in-Some.line in
    let r = c.in_ok-line.was ∙ ap Ok c.in-Some.is in
    let read = sym (ap next_content r) ∙ c.next_line.ensures.value in
    let laid = line_laid plan ts (lines (unread was)) was.place was.number s was.sound c.loop-line.invariant read in
    going_on plan ts (table_tracks c.lay_line.new.table) (lines (unread was)) (lines (unread next)) was.place next.place was.number next.number s
    c.loop-line.invariant read (c.lay_line.ensures ∙ laid) (ap lines c.next_line.ensures.unread ∙ lines_rest (unread was))
    (c.next_line.ensures.place ∙ ap (λ x. place_after was.place (next_content x)) r) c.next_line.ensures.number

pub loop-line-smaller : goal.loop-line-smaller
loop-line-smaller c =
    let was = c.loop-line.reader in
    let r = c.in_ok-line.was ∙ ap Ok c.in-Some.is in
    fewer_left (unread was) (unread c.next_line.new.self) was.place was.number (content c.in-Some.line)
    (sym (ap next_content r) ∙ c.next_line.ensures.value) c.next_line.ensures.unread

pub returns-in_err-line : goal.returns-in_err-line
returns-in_err-line c =
    let was = c.loop-line.reader in
    let fault = c.in_err-line.field-0.0 in
    let read = sym (ap next_content c.in_err-line.was) ∙ c.next_line.ensures.value in
    let whole = c.loop-line.invariant.0 ∙ ap (onto (table_tracks c.loop-line.table)) (walk_fault (lines (unread was)) was.place was.number fault read) in
    let p = err_from_is_err_and c.from_residual.result c.from_residual.ensures.1 in
    let r = p.1 ∙ ap Err p.2 in
    record { value = r ∙ sym (ap answer_to whole); tracks = λ k. let z = sym k ∙ ap is_ok r in cc }
