use Rattle.std.proofs.Common.{sym, ◌∙◌}
use Rattle.fan.specs.Fans.{length_fanned}
use Rattle.fan.proofs.FanNetwork.count.Goals as goal

pub returns : goal.returns
returns c = c.track_count.ensures ∙ sym (length_fanned c.args.self.now.roads c.args.self.now.shut)
