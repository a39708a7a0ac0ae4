use Rattle.std.proofs.Common.{string_bytes, arith}
use Rattle.std.proofs.lemmas.Result.{IfOk-weaker}
use Rattle.yard.specs.Meaning.{yard_tracks}
use Rattle.graph.proofs.Counting.{count_same}
use Rattle.labels.specs.Printed.{LabelsText}
use Rattle.labels.proofs.text.labels_text.Goals as goal

pub returns-in-Ok : goal.returns-in-Ok
returns-in-Ok c =
    let words = c.args.words.now in
    let y = yard_tracks c.args.yard.now in
    let needed = c.words_needed-needed.result in
    let x = c.in-Ok.ensures.x in
    let same = count_same x.needed_are c.words_needed-needed.ensures in
    let enough = x.enough in
    IfOk-weaker c.drawn_text.result _ (λ t. LabelsText words y (string_bytes t))
    (λ t d. record { needed = needed; needed_are = c.words_needed-needed.ensures; enough = λ _. d; few = λ h. absurd (omega arith) })
    c.drawn_text.ensures
