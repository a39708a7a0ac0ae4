use Rattle.std.proofs.Common.{◌≡◌, ℕ, ◌<◌, length}
use Rattle.yard.specs.Meaning.{yard_tracks}
use Rattle.judging.specs.Leads.{RoundAgrees}
use Rattle.judging.proofs.leads.Leads.are_confirmed.Given as goal

-- the rounds before this one agree
abbrev pub invariant-loop-round : goal.invariant-loop-round
invariant-loop-round l = record {
  room : length l.labels ≡ 2048;
  agree : (r : ℕ) → r < l.round → RoundAgrees (yard_tracks l.yard) l.self.leads r;
}
