use Rattle.std.proofs.Common.{◌≡◌, List, [], ◌∷◌, vec_items, ap, ◌∙◌}
use Rattle.network.specs.Tracks.{each_point, open_track}
use Rattle.network.specs.declared.track.Track.{Track}
use Rattle.table.specs.Laying.{table_tracks, lay_after}
use Rattle.table.specs.declared.Table.{Table}
use Rattle.tied.specs.Standing.{tied, tie_after}
use Rattle.tied.specs.declared.Tied.{Tied}
use Rattle.annex.specs.Annexed.{annexed, add_after}
use Rattle.layers.proofs.build.Goals as goal

abbrev tracks_of : Tied Table → List Track
tracks_of t = tied t.stands (table_tracks t.below)

abbrev two : List Track
two = open_track 0 7 ∷ open_track 7 2 ∷ []

pub returns : goal.returns
returns c =
    let laid = c.lay-2.ensures.after ∙ ap (λ ts. lay_after ts 1 2) (c.lay.ensures.after ∙ ap (λ ts. lay_after ts 0 1) c.in_ok-table.ensures) in
    let stands = c.tie.ensures.stands ∙ ap (λ s. tie_after s 1 7) c.new-tied.ensures.stands in
    let table = c.tie.ensures.below ∙ c.new-tied.ensures.below in
    let made = c.in_ok-pile.ensures.made in
    let shown : tracks_of c.tie.new.self ≡ two =
    ap (λ s. tied s (table_tracks c.tie.new.self.below)) stands
    ∙ ap (λ t. tied (tie_after each_point 1 7) (table_tracks t)) table
    ∙ ap (tied (tie_after each_point 1 7)) laid in
    let below = ap tracks_of made.0 ∙ shown in
    let own = c.add.ensures.own ∙ ap (λ ts. add_after ts (vec_items c.in_ok-pile.pile.own) 1 6) below ∙ ap (λ ts. add_after two ts 1 6) made.1 in
    ap (λ t. annexed (tracks_of t) (vec_items c.add.new.self.own)) c.add.ensures.below
    ∙ ap (λ ts. annexed ts (vec_items c.add.new.self.own)) below
    ∙ ap (annexed two) own
