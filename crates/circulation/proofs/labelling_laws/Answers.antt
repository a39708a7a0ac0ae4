use Rattle.circulation.proofs.Unique.{labelling_unique}
use Rattle.circulation.proofs.Exists.{labelled, labelling_exists}
use Rattle.circulation.proofs.labelling_laws.Goals as goal

pub returns : goal.returns
returns g c =
    let G = g.K.Label.group in
    record { some = λ y drawn. (labelled G y drawn, labelling_exists G y drawn); one = labelling_unique G }
