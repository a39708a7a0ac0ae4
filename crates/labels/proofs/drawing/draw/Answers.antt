use Rattle.std.proofs.Common.{ℕ, length, get_or, sym, ◌∙◌, subst}
use Rattle.std.proofs.lemmas.List.{take_at}
use Rattle.std.proofs.lemmas.Result.{err_from_is_err_and}
use Rattle.yard.specs.Meaning.{yard_tracks}
use Rattle.labels.specs.Draws.{Drew}
use Rattle.labels.proofs.Steps.{too_few}
use Rattle.labels.proofs.drawing.draw.Goals as goal

pub returns-in_err-labels : goal.returns-in_err-labels
returns-in_err-labels g c =
    let p = err_from_is_err_and c.from_residual.result c.from_residual.ensures.1 in
    rw (p.1, p.2) tt

pub returns-in_err-label_tracks : goal.returns-in_err-label_tracks
returns-in_err-label_tracks g c =
    let p = err_from_is_err_and c.from_residual-in_err-label_tracks.result c.from_residual-in_err-label_tracks.ensures.1 in
    rw (p.1, p.2) (too_few (yard_tracks c.args.yard.now) _ _ _ (c.as_mut_slice.ensures.len ∙ c.in_ok-labels.ensures) c.in_err-label_tracks.ensures.0)

pub returns : goal.returns
returns g c =
    let drawn : ℕ → g.row.K.Denot = λ i. g.K.Label.drawn (get_or c.args.words.now i 0) in
    let a = c.in_ok-label_tracks.ensures in
    subst (Drew g.K.Label.group (yard_tracks c.args.yard.now) drawn (length c.args.words.now))
    (sym (take_at c.label_tracks.new.labels _ _ (c.label_tracks.auto.labels ∙ c.as_mut_slice.ensures.len)))
    (record { needed = c.in_ok-label_tracks.field-0; needed_are = a.1; enough = a.2; labelling = a.3 })
