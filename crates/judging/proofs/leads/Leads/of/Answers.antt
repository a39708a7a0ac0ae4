use Rattle.std.proofs.Common.{None, rules}
use Rattle.judging.specs.Leads.{LeadOf, LeadsOf}
use Rattle.judging.proofs.Acceptance.{leads_low, leads_whole}
use Rattle.judging.proofs.Filling.{filled}
use Rattle.judging.proofs.leads.Leads.of.Given as given
use Rattle.judging.proofs.leads.Leads.of.Goals as goal
use Rattle.judging.proofs.leads.Leads.of.Goals.{After-from_fn}

leads_of : (g : given.Over) (c : After-from_fn g) → LeadsOf g.K.Label.group c.args.labels.now c.from_fn.result
leads_of g c = leads_whole g.K.Label.group c.args.labels.now c.from_fn.result 2048 c.from_fn.ensures.items.long c.requires (filled (LeadOf g.K.Label.group c.args.labels.now) None c.from_fn.ensures.items (λ k o q w. search rules))

pub invariant_of-result : goal.invariant_of-result
invariant_of-result g c = record { long = c.from_fn.ensures.items.long; low = leads_low g.K.Label.group c.args.labels.now c.from_fn.result (leads_of g c) }

pub returns : goal.returns
returns g c = leads_of g (goal.at.returns g c).After-from_fn
