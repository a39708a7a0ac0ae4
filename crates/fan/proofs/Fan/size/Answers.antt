use Rattle.std.proofs.Common.{◌≡◌, cond, is_ok, Ok, ap, ◌∙◌, rules}
use Rattle.fan.specs.Roads.{size_answer, open_roads}
use Rattle.fan.specs.Fanned.{fan_tracks}
use Rattle.fan.specs.Fans.{fanned_open}
use Rattle.fan.proofs.Fan.size.Goals as goal

pub returns : goal.returns
returns c =
    let taken : Ok tt ≡ size_answer c.args.roads = search rules in
    record {
      value = taken;
      after = fanned_open c.args.roads ∙ ap (λ r. cond (is_ok r) (open_roads c.args.roads) (fan_tracks c.args.self.now)) taken;
    }
