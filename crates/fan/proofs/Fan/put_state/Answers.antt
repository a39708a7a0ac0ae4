use Rattle.std.proofs.Common.{arith}
use Rattle.network.proofs.Layers.{at_some}
use Rattle.fan.specs.Fanned.{fan_tracks}
use Rattle.fan.specs.Fans.{length_fanned, put_fanned}
use Rattle.fan.proofs.Fan.put_state.Goals as goal

pub bounds-self-track : goal.bounds-self-track
bounds-self-track c =
    let near = at_some (fan_tracks c.args.self.now) c.args.track c.requires in
    let long = length_fanned c.args.self.now.roads c.args.self.now.shut in
    omega arith

pub returns : goal.returns
returns c =
    let near = at_some (fan_tracks c.args.self.now) c.args.track c.requires in
    let long = length_fanned c.args.self.now.roads c.args.self.now.shut in
    put_fanned c.args.self.now.roads c.args.self.now.shut c.args.shut c.args.track (omega arith) (omega arith)
