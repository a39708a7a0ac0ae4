use Rattle.std.proofs.Common.{sym, ◌∙◌, arith}
use Rattle.std.proofs.lemmas.List.{ext_get_or}
use Rattle.sheet.specs.declared.mark.Mark.TheVariants.{Shut}
use Rattle.sheet.proofs.Marks.{one_mark}
use Rattle.sheet.proofs.mark_laws.Goals as goal

pub returns : goal.returns
returns c = record {
  one_mark = one_mark;
  one_list = λ y ms ns a b. ext_get_or Shut ms ns (a.one_each ∙ sym b.one_each) (λ t h. one_mark y t _ _ (a.each t (omega (arith, a.one_each))) (b.each t (omega (arith, a.one_each))));
}
