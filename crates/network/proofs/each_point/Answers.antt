use Rattle.std.proofs.Common.{rules, ◌∙◌}
use Rattle.std.proofs.lemmas.List.{map-id}
use Rattle.std.proofs.lemmas.List.FromFn.{fill_by_all}
use Rattle.network.proofs.each_point.Goals as goal

pub returns : goal.returns
returns c = fill_by_all (λ k. k) c.from_fn.result 512 0 c.from_fn.ensures.items.long (λ k h. let called = c.from_fn.ensures.items.at k 0 h in search rules) ∙ map-id _
