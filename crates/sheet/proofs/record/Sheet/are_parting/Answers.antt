use Rattle.std.proofs.Common.{◌∙◌, ap₂}
use Rattle.std.proofs.lemmas.Bool.Decides.{Decides-at}
use Rattle.sheet.specs.Asked.{parting_by}
use Rattle.sheet.specs.Meaning.{sheet_marks}
use Rattle.sheet.proofs.Answering.{answered, decides_parting}
use Rattle.sheet.proofs.record.Sheet.are_parting.Goals as goal

pub returns-clause-told : goal.returns-clause-told
returns-clause-told c = λ y right.
    let ms = sheet_marks c.args.self.now in
    let t = c.args.t in
    let u = c.args.u in
    let first = answered ms t c.in_ok-m.m c.in_ok-m.ensures.value in
    let second = answered ms u c.in_ok-n.n c.in_ok-n.ensures.value in
    ((c.in_ok-m.ensures.told y right).0, (c.in_ok-n.ensures.told y right).0, Decides-at _ _ (c.is_parting.ensures ∙ ap₂ (parting_by t u) first.1 second.1) (decides_parting y ms right t u first.0 second.0))
