use Rattle.std.proofs.Common.{◌≡◌, true, sym, ap, ◌∙◌, arith, rules}
use Rattle.std.proofs.lemmas.Iterator.{cases_from_all, YieldsList-from_slice, YieldsList-from_zip}
use Rattle.std.proofs.lemmas.Slice.Zip.{get_or-zip, length-zip}
use Rattle.std.proofs.lemmas.Grind.{common_steps}
use borrow.Author.Tests.{tests}
use Rattle.graph.specs.Yards.{none}
use Rattle.labelling.proofs.Bounds.{decides_match, all_shut_zero}
use Rattle.labelling.proofs.balance.shut_carry_zero.Goals as goal

pub returns : goal.returns
returns g c =
    let y = c.args.tracks.now in
    let ks = c.args.labels.now in
    let G = g.K.Label.group in
    decides_match c.all.result
    (cases_from_all c.all.new.self _ c.all.result (λ p. p.0.shut ≡ true → p.1 ≡ G.zero) (λ p. (p.0.shut ≡ true) × ¬ (p.1 ≡ G.zero)) c.all.ensures.ran
    (YieldsList-from_zip (YieldsList-from_slice y (ap (λ i. i.rest.now) c.zip.ensures.first ∙ c.iter.ensures.rest)) (YieldsList-from_slice ks (search rules)))
    (λ x q k. (search rules, λ s. grind (arith, common_steps))) (λ x q k. (search (rules, tests), λ z. grind (arith, common_steps))))
    (λ all. all_shut_zero G y ks c.requires (λ t h s. let e = get_or-zip y ks t (none, G.zero) h (let long = c.requires in omega arith) in ap (λ p. p.1) (sym e) ∙ all t (none, G.zero) (omega arith) (omega (arith, length-zip y ks, c.requires)) (ap (λ p. p.0.shut) e ∙ s)))
    (λ some zero. let e = get_or-zip y ks some.0 (none, G.zero) (let low = some.1 in omega (arith, length-zip y ks)) (let low = some.1 in omega (arith, length-zip y ks)) in
    let w = some.2 (none, G.zero) in w.1 (ap (λ p. p.1) e ∙ zero some.0 (ap (λ p. p.0.shut) (sym e) ∙ w.0)))
