use Rattle.std.proofs.Common.{ℕ, Bool, false, get_or, Some, sym, ap, ◌∙◌, arith}
use Rattle.network.specs.declared.track.Track.{Track}
use Rattle.fan.specs.Fans.{at_fanned, at_outside}
use Rattle.fan.proofs.Fan.record.Goals as goal

pub returns-then-track-track_count : goal.returns-then-track-track_count
returns-then-track-track_count c = sym (at_outside c.args.self.now.roads c.args.self.now.shut c.args.track (omega arith))

pub returns : goal.returns
returns c =
    ap (λ p. Some (joining p (get_or c.args.self.now.shut c.args.track false))) c.track_ends-first.ensures
    ∙ sym (at_fanned c.args.self.now.roads c.args.self.now.shut c.args.track (omega arith))
  where
    joining : ℕ × ℕ → Bool → Track
    joining p shut = record { first = p.0; second = p.1; shut = shut }
