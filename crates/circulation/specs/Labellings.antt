-- The labelling that draws determine. Assumes nothing.
use Rattle.std.specs.Prelude.{◌≡◌, ℕ, cond, List, ◌==◌}
use Rattle.network.specs.declared.track.Track.{Track}
use Rattle.label.specs.Groups.{Group}
use Rattle.graph.specs.Counts.{Count}
use Rattle.graph.specs.Forests.{Chord}
use Rattle.graph.specs.Yards.{track}
use Rattle.circulation.specs.Labels.{label, total, leaves_from, enters_at, Balanced}

-- balanced labels in which the chords, in rising number, carry what was drawn: a chord with i chords below it carries the draw i
pub record Labelling {K : Type 0} (G : Group K) (y : List Track) (drawn : ℕ → K) (ks : List K) : Type 0 where
  pub balanced : Balanced G y ks
  pub carries : (t i : ℕ) → Count (Chord y) t i → Chord y t → label G ks t ≡ drawn i

-- what the track t must carry for its end c to balance, where it carries zero and all other tracks at c have their labels
abbrev pub owed : {K : Type 0} → Group K → List Track → List K → ℕ → ℕ → K
owed G y ks t c =
    let out = total G (leaves_from c) y ks in
    let into = total G (enters_at c) y ks in
    cond ((track y t).first == c) (G.sum into (G.opposite out)) (G.sum out (G.opposite into))
