-- What labelling answers, and what it writes. Assumes nothing.
use Rattle.std.specs.Prelude.{◌≡◌, ℕ, ◌<◌, ◌≤◌, ◌≢◌, ◌⊎◌, List, length, Ok, Err, Result}
use Rattle.network.specs.declared.track.Track.{Track}
use Rattle.label.specs.Groups.{Group}
use Rattle.graph.specs.Forests.{WordsNeeded}
use Rattle.circulation.specs.Labels.{Balanced}
use Rattle.circulation.specs.Labellings.{Labelling}

-- ks is the one labelling in which the chords carry these draws; it balances, and draws beyond the first n do not matter
pub record TheLabelling {K : Type 0} (G : Group K) (y : List Track) (drawn : ℕ → K) (n : ℕ) (ks : List K) : Type 0 where
  pub labelling : Labelling G y drawn ks
  pub only : (ms : List K) → Labelling G y drawn ms → ms ≡ ks
  pub balanced : Balanced G y ks
  pub beyond : (other : ℕ → K) → ((i : ℕ) → i < n → other i ≡ drawn i) → Labelling G y other ks

-- why labelling is refused, of a list that is so long, with so many words given: 7, the list is not as long as the track list; else 8, fewer words than needed
abbrev pub LabelRefusal : List Track → ℕ → ℕ → ℕ → Type 0
LabelRefusal y long given number = ((long ≢ length y) × (number ≡ 7)) ⊎ ((long ≡ length y) × ((n : ℕ) × WordsNeeded y n × (given < n)) × (number ≡ 8))

-- the answer to a labelling, and the caller's list before and after: the number of words needed, and the one labelling; or a refusal, and the list as it was
abbrev pub LabelAnswer : {K : Type 0} → Group K → List Track → (ℕ → K) → ℕ → List K → List K → Result ℕ ℕ → Type 0
LabelAnswer G y drawn given before after (Ok n) = (length before ≡ length y) × WordsNeeded y n × (n ≤ given) × TheLabelling G y drawn n after
LabelAnswer G y drawn given before after (Err number) = LabelRefusal y (length before) given number × (after ≡ before)
