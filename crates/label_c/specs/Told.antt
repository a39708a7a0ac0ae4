-- What each call answers and writes. Assumes nothing.
use Rattle.std.specs.Prelude.{◌≡◌, ℕ, Bool, ◌≢◌, ◌⊎◌, List, Ok, Err, Decides, Result}
use Rattle.network.specs.Refusals.{numbered}
use Rattle.network.specs.Tracks.{Limits}
use Rattle.network.specs.declared.stop.Stop.{Stop}
use Rattle.network.specs.declared.stop.Stop.TheVariants.{Refused, NoMemory}
use Rattle.network.specs.declared.track.Refusal.{Refusal}
use Rattle.network.specs.declared.track.Track.{Track}
use Rattle.label.specs.Groups.{Group}
use Rattle.circulation.specs.Labels.{Balanced}
use Rattle.labelling.specs.Told.{LabelAnswer}
use Rattle.boundary.specs.Told.{RefusedFor, Unmade}

-- labelling so many times: it answers and writes what one labelling does, and nothing is written where it is to be done no time
abbrev pub Repeated : {K : Type 0} → Group K → List Track → (ℕ → K) → ℕ → ℕ → List K → List K → Result (Unit {0}) Refusal → Type 0
Repeated G y drawn given times before after (Ok _) =
    (times ≡ 0 → after ≡ before) × (times ≢ 0 → (n : ℕ) × LabelAnswer G y drawn given before after (Ok n))
Repeated G y drawn given times before after (Err why) = (times ≢ 0) × LabelAnswer G y drawn given before after (numbered (Err why))

-- a call that labels: its labelling is written so many times; or nothing is written, as there is no yard of the tracks, or labelling is refused
abbrev pub Labelled : {K : Type 0} → Group K → List Track → (ℕ → K) → ℕ → ℕ → List K → List K → Result (Unit {0}) Stop → Type 0
Labelled G y drawn given times before after (Ok _) = Limits y × Repeated G y drawn given times before after (Ok tt)
Labelled G y drawn given times before after (Err NoMemory) = Limits y × (after ≡ before)
Labelled G y drawn given times before after (Err (Refused why)) =
    (RefusedFor y why × (after ≡ before)) ⊎ (Limits y × Repeated G y drawn given times before after (Err why))

-- a call that asks whether labels balance: the answer is written; or nothing is, as there is no yard of the tracks
abbrev pub Weighed : {K : Type 0} → Group K → List Track → List K → Bool → Bool → Result (Unit {0}) Stop → Type 0
Weighed G y ks before after (Ok _) = Limits y × Decides after (Balanced G y ks)
Weighed G y ks before after (Err why) = Unmade y why × (after ≡ before)
