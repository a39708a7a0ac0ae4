-- `next_line` gives what the next line says, keeps the place sound and moves on. Assumes nothing.
use Rattle.std.proofs.Common.{Err, sym, ap, ◌∙◌, subst}
use Rattle.std.proofs.lemmas.Result.{err_from_is_err_and}
use Rattle.layout.specs.Contents.{content, next_content}
use Rattle.layout.specs.Layout.{lines}
use Rattle.layout.specs.Lines.{line_of}
use Rattle.layout.specs.Places.{Sound, next_place}
use Rattle.layout.specs.Plans.{next_of, place_after}
use Rattle.layout.proofs.LineKinds.{sound_next, line_at_ok, line_at_err, read_there}
use Rattle.layout.proofs.Parts.{comment_part}
use Rattle.plan.specs.Unread.{unread}
use Rattle.plan.proofs.reader.Reader.next_line.Goals as goal

pub returns-in_err-line : goal.returns-in_err-line
returns-in_err-line c =
    let p = err_from_is_err_and c.from_residual-in_err-line.result c.from_residual-in_err-line.ensures.1 in
    let r = p.1 ∙ ap Err p.2 in
    let b = c.in-Some.bytes.now in
    let was = c.args.self.now in
    let v = ap next_content r ∙ line_at_err c.in_err-line.field-0.0 (line_of c.take_line.new.self.place b) was.number c.in_err-line.ensures
    ∙ ap (λ x. next_of (line_of x b) was.number) c.take_line.ensures.place
    ∙ sym (read_there (lines (unread was)) was.place was.number b c.in-Some.ensures.value) in
    record {
      value = v;
      part = λ line e. comment_part (unread was) (unread c.take_line.new.self) was.place was.number line (sym e ∙ v) c.take_line.ensures.unread;
      unread = c.take_line.ensures.unread;
      place = c.take_line.ensures.place ∙ sym (ap (λ x. place_after was.place (next_content x)) r);
      number = c.take_line.ensures.number;
    }

pub invariant_of-self : goal.invariant_of-self
invariant_of-self c =
    let b = c.in-Some.bytes.now in
    let place = c.take_line.new.self.place in
    let s = content c.in_ok-line.line in
    let e = line_at_ok s (line_of place b) c.args.self.now.number c.in_ok-line.ensures in
    record { counted = c.take_line.new.self.counted; sound = subst Sound (sym c.place_after-self.ensures) (sound_next place b s c.take_line.new.self.sound e) }

pub returns : goal.returns
returns c =
    let b = c.in-Some.bytes.now in
    let was = c.args.self.now in
    let s = content c.in_ok-line.line in
    let e = line_at_ok s (line_of c.take_line.new.self.place b) was.number c.in_ok-line.ensures in
    let v = ap (λ r. next_of r was.number) e ∙ ap (λ x. next_of (line_of x b) was.number) c.take_line.ensures.place
    ∙ sym (read_there (lines (unread was)) was.place was.number b c.in-Some.ensures.value) in
    record {
      value = v;
      part = λ line e. comment_part (unread was) (unread c.take_line.new.self) was.place was.number line (sym e ∙ v) c.take_line.ensures.unread;
      unread = c.take_line.ensures.unread;
      place = c.place_after-self.ensures ∙ ap (λ x. next_place x s) c.take_line.ensures.place;
      number = c.take_line.ensures.number;
    }
