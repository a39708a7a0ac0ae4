use Rattle.std.proofs.Common.{◌≡◌, ℕ, ◌+◌, List, Decides, ◌∙◌, subst, refl, arith, rules}
use Rattle.std.proofs.lemmas.Iterator.{cases_from_all, YieldsList-from_range}
use Rattle.std.proofs.lemmas.Grind.{common_steps}
use Rattle.std.proofs.lemmas.List.FromFn.{get_or-range_with_len, length-range_with_len}
use Rattle.network.specs.declared.track.Track.{Track}
use Rattle.circulation.specs.Labels.{total, leaves_from, enters_at}
use Rattle.labelling.proofs.Bounds.{decides_match, at_all_points}
use Rattle.yard.specs.Meaning.{yard_tracks}
use Rattle.labelling.proofs.balance.each_point_balances.Goals as goal

pub returns : goal.returns
returns g c =
    let y = yard_tracks c.of-incidence.result.yard.now in
    let ks = c.args.labels.now in
    let G = g.K.Label.group in
    subst (λ (z : List Track). Decides c.all.result ((p : ℕ) → total G (leaves_from p) z ks ≡ total G (enters_at p) z ks)) c.of-incidence.ensures
    (decides_match c.all.result
    (cases_from_all c.all.new.self _ c.all.result (λ p. total G (leaves_from p) y ks ≡ total G (enters_at p) y ks) (λ p. ¬ (total G (leaves_from p) y ks ≡ total G (enters_at p) y ks)) c.all.ensures.ran
    (YieldsList-from_range 0 512 512 refl refl)
    (λ x q k. (search rules, grind (arith, common_steps))) (λ x q k e. grind (arith, common_steps)))
    (λ all. at_all_points G y ks c.of-incidence.result.yard.now.points (λ p h. subst (λ (q : ℕ). total G (leaves_from q) y ks ≡ total G (enters_at q) y ks) (get_or-range_with_len 0 512 p 0 h ∙ (let e : 0 + p ≡ p = omega arith in e)) (all p 0 (omega arith) (omega (arith, length-range_with_len 0 512)))))
    (λ some zero. some.2 0 (zero _)))
