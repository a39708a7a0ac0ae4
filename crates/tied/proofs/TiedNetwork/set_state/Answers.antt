use Rattle.std.proofs.Common.{ap, ◌∙◌}
use Rattle.tied.specs.Standing.{tied}
use Rattle.tied.specs.Ties.{answer_tied, after_tied}
use Rattle.tied.proofs.TiedNetwork.set_state.Goals as goal

pub returns : goal.returns
returns g c = record {
  value = c.set_state.ensures.value ∙ answer_tied _ _ c.args.shut c.args.track;
  after = ap (tied c.args.self.now.stands) c.set_state.ensures.after ∙ after_tied _ _ c.args.shut c.args.track;
}
