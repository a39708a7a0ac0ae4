use Rattle.std.proofs.Common.{rules, List, length, get_or, ℕ, ◌+◌, refl, ap, sym, ◌∙◌, subst, arith, length-set}
use Rattle.sheet.specs.declared.total.Totals.{Totals}
use Rattle.sheet.specs.Asked.{TotalsOf}
use Rattle.sheet.specs.Marks.{mark_at, is_mates}
use Rattle.sheet.specs.Meaning.{sheet_marks}
use Rattle.graph.specs.Counts.{start, no_pairs}
use Rattle.graph.proofs.Counting.{count_le}
use Rattle.sheet.proofs.Answering.{totals_told}
use Rattle.sheet.proofs.Counted.{Seen, pairs_le, seen_none, seen_same, totals_same, single_more, seen_more, lead_more, mate_more, mates_read, neither}
use Rattle.sheet.proofs.record.Sheet.totals.Goals as goal
use Rattle.sheet.proofs.record.Sheet.totals.Goals.{in-Single, in-Mates, then-lead-number, else-lead-number, in_default}

pub loop-number-init : goal.loop-number-init
loop-number-init c = record { room = refl; seen = seen_none (sheet_marks c.args.self.now); totals = record { singles = start; classes = start; pairs = no_pairs }; letter = refl }

pub overflow_add-totals : goal.overflow_add-totals
overflow_add-totals c = let le = count_le c.loop-number.invariant.totals.singles in search rules

pub overflow_add-totals-then-lead-number : goal.overflow_add-totals-then-lead-number
overflow_add-totals-then-lead-number c = let le = count_le c.loop-number.invariant.totals.classes in search rules

pub overflow_add-totals-in-Mates : goal.overflow_add-totals-in-Mates
overflow_add-totals-in-Mates c =
    let le = pairs_le c.loop-number.invariant.totals.pairs (omega arith) in
    elim c.if-lead-number.branch [ then-lead-number w ↦ let e = ap (λ t. t.pairs) w.totals-is in search rules | else-lead-number w ↦ let e = ap (λ t. t.pairs) w.totals-is in search rules ]

pub overflow_add-seen : goal.overflow_add-seen
overflow_add-seen c =
    let read = mates_read (sheet_marks c.args.self.now) _ c.loop-number.number _ _ c.args.self.now.led c.deref-mark-items.ensures.value (omega arith) c.in-Mates.is in
    let le = count_le (c.loop-number.invariant.seen c.in-Mates.lead read.1) in
    search rules

pub loop-number-preserved : goal.loop-number-preserved
loop-number-preserved c =
    let ms = sheet_marks c.args.self.now in
    let n = c.loop-number.number in
    let v = c.loop-number.invariant in
    let same = ap (λ l. mark_at l n) (sym c.deref-mark-items.ensures.value) in
    let Right : Totals → Type 0 = TotalsOf ms (n + 1) in
    let Found : List ℕ → Type 0 = λ l. Seen ms l (n + 1) in
    elim c.match-mark.branch [
      | in-Single w ↦
          let is = same ∙ w.in-Single.is in record {
            room = ap length w.seen-is ∙ v.room;
            seen = subst Found (sym w.seen-is) (seen_same ms n _ _ v.seen v.totals (ap is_mates is));
            totals = subst Right (sym w.totals-is) (single_more ms n _ _ v.seen v.totals is);
            letter = ap (λ t. t.letter) w.totals-is ∙ v.letter;
          }
      | in-Mates w ↦
          let l = w.in-Mates.lead in
          let seen = c.loop-number.seen in
          let (is, low) = mates_read ms _ n _ _ c.args.self.now.led c.deref-mark-items.ensures.value (omega arith) w.in-Mates.is in
          let paired : Totals → Totals = λ t. record { singles = t.singles; classes = t.classes; pairs = t.pairs + get_or seen l 0; letter = t.letter } in record {
            room = ap length w.seen-is ∙ length-set seen l _ ∙ v.room;
            seen = subst Found (sym w.seen-is) (seen_more ms n seen _ v.seen v.totals l _ is low (omega (arith, v.room)));
            totals = elim w.if-lead-number.branch [
              | then-lead-number w' ↦ subst Right (sym (w.totals-is ∙ ap paired w'.totals-is)) (lead_more ms n seen _ v.seen v.totals l _ is low w'.if-lead-number.true)
              | else-lead-number w' ↦ subst Right (sym (w.totals-is ∙ ap paired w'.totals-is)) (mate_more ms n seen _ v.seen v.totals l _ is low w'.if-lead-number.false)
            ];
            letter = elim w.if-lead-number.branch [
              | then-lead-number w' ↦ ap (λ t. t.letter) (w.totals-is ∙ ap paired w'.totals-is) ∙ v.letter
              | else-lead-number w' ↦ ap (λ t. t.letter) (w.totals-is ∙ ap paired w'.totals-is) ∙ v.letter
            ];
          }
      | in_default w ↦
          let (single, mates) = neither (mark_at ms n) (λ e. w.in_default.not-Single (sym same ∙ e)) (λ l s e. w.in_default.not-Mates l s (sym same ∙ e)) in record {
            room = ap length w.seen-is ∙ v.room;
            seen = subst Found (sym w.seen-is) (seen_same ms n _ _ v.seen v.totals mates);
            totals = subst Right (sym w.totals-is) (totals_same ms n _ _ v.seen v.totals single mates);
            letter = ap (λ t. t.letter) w.totals-is ∙ v.letter;
          }
    ]

pub returns-clause-told : goal.returns-clause-told
returns-clause-told c = λ y right. totals_told y (sheet_marks c.args.self.now) right c.loop-number.totals (search rules)
