use Rattle.std.proofs.Common.{ℕ, length, get_or, arith}
use Rattle.std.proofs.lemmas.Result.{err_from_is_err_and}
use Rattle.yard.specs.Meaning.{yard_tracks}
use Rattle.label_c.proofs.Again.{refused_once}
use Rattle.label_c.proofs.label_times.Goals as goal

pub returns-in_err-label_tracks : goal.returns-in_err-label_tracks
returns-in_err-label_tracks g c =
    let p = err_from_is_err_and c.from_residual.result c.from_residual.ensures.1 in
    let words = c.args.words.now in
    let drawn : ℕ → g.row.K.Denot = λ i. g.K.Label.drawn (get_or words i 0) in
    let refused = refused_once g.K.Label.group (yard_tracks c.args.yard.now) drawn (length words) c.loop-round._round _ c.args.labels.now c.loop-round.labels c.label_tracks.new.labels c.loop-round.auto.labels c.loop-round.invariant c.in_err-label_tracks.ensures in
    rw (p.1, p.2) (λ e. absurd (omega arith), refused)
