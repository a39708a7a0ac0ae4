use Rattle.std.proofs.Common.{◌≡◌, ◌<◌, ◌+◌, ℕ, List, length, Some, None, Option, take, refl, sym, ap, ◌∙◌, subst, rules, arith, length-set, length-take}
use Rattle.std.proofs.lemmas.List.{get_or-replicate, get_or-take}
use Rattle.graph.specs.Counts.{Count, start}
use Rattle.judging.specs.Leads.{lead}
use Rattle.judging.specs.Marking.{Sized}
use Rattle.judging.proofs.Marking.{size_le, size_same, size_more}
use Rattle.judging.proofs.leads.Leads.sizes.Goals as goal
use Rattle.judging.proofs.leads.Leads.sizes.Goals.{in-Some, in_default}

-- the lead that is read is that of its track
lead_read : (leads : List (Option ℕ)) (count t : ℕ) (o : Option ℕ) → t < length (take count leads) → lead (take count leads) t ≡ o → (lead leads t ≡ o) × (t < count)
lead_read leads count t o h e = let low : t < count = omega (arith, length-take count leads) in (sym (get_or-take count leads t None low) ∙ e, low)

pub loop-lead-init : goal.loop-lead-init
loop-lead-init c = record { long = refl; counted = λ l h. subst (Count (λ t. lead c.args.self.now.leads t ≡ Some l) 0) (sym (get_or-replicate 2048 l 0 0 h)) start }

pub overflow_add-sizes : goal.overflow_add-sizes
overflow_add-sizes c =
    let (is, below) = lead_read c.args.self.now.leads c.args.count c.loop-lead.lead-index _ c.loop-lead-test.true c.in-Some.is in
    let low = c.args.self.now.low _ _ is in
    let le = size_le c.args.self.now.leads c.loop-lead.sizes c.loop-lead.lead-index c.loop-lead.invariant.counted c.in-Some.lead (omega arith) in
    search rules

pub loop-lead-preserved : goal.loop-lead-preserved
loop-lead-preserved c =
    let leads = c.args.self.now.leads in
    let n = c.loop-lead.lead-index in
    let sizes = c.loop-lead.sizes in
    let v = c.loop-lead.invariant in
    let Good : List ℕ → Type 0 = λ l. Sized leads l (n + 1) in
    elim c.match-lead.branch [
      | in-Some w ↦
          let (is, below) = lead_read leads c.args.count n _ c.loop-lead-test.true w.in-Some.is in
          let low = c.args.self.now.low _ _ is in record {
            long = ap length w.sizes-is ∙ length-set sizes w.in-Some.lead _ ∙ v.long;
            counted = subst Good (sym w.sizes-is) (size_more leads sizes n v.counted w.in-Some.lead is (omega (arith, v.long)));
          }
      | in_default w ↦ record {
        long = ap length w.sizes-is ∙ v.long;
        counted = subst Good (sym w.sizes-is) (size_same leads sizes n v.counted (lead_read leads c.args.count n _ c.loop-lead-test.true w.in_default.is).0);
      }
    ]
