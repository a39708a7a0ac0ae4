use Rattle.std.proofs.Common.{List, length, get_or, Decides, IsOk, sym, ap, subst}
use Rattle.network.specs.declared.track.Track.{Track}
use Rattle.label.specs.Kinds.{word_label, xors}
use Rattle.labelling.specs.Told.{TheLabelling}
use Rattle.yard.specs.Meaning.{yard_tracks}
use Rattle.judging.specs.Leads.{Agrees}
use Rattle.judging.proofs.Confirming.{round_told, not_refused}
use Rattle.judging.proofs.leads.Leads.round_agrees.Goals as goal
use Rattle.judging.proofs.leads.Leads.round_agrees.Goals.{After-label_tracks}

-- the labelling of the round is not refused
labelled : (c : After-label_tracks) → IsOk c.label_tracks.result × TheLabelling xors (yard_tracks c.args.yard.now) (λ i. word_label (get_or c.args.words.now i 0)) (length c.args.words.now) c.label_tracks.new.labels
labelled c = not_refused (yard_tracks c.args.yard.now) (length c.args.words.now) c.args.labels.now c.label_tracks.new.labels (λ i. word_label (get_or c.args.words.now i 0)) c.requires.labels c.requires.needed c.label_tracks.result c.label_tracks.ensures

pub unwrap-requires : goal.unwrap-requires
unwrap-requires c = (labelled (goal.at.unwrap-requires c).After-label_tracks).0

pub returns : goal.returns
returns c =
    let y = yard_tracks c.args.yard.now in
    let leads = c.args.self.now.leads in
    let is = (labelled (goal.at.returns c).After-label_tracks).1 in
    round_told y leads c.args.round (length c.args.words.now) c.label_tracks.new.labels _ is (λ i h. ap word_label (sym (c.requires.words i h))) _
    (subst (λ (z : List Track). Decides c.agrees.result (Agrees z leads c.label_tracks.new.labels (length z))) c.tracks.ensures c.agrees.ensures)
