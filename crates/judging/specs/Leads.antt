-- Tracks grouped by equal or opposite labels: each has the lowest of its group for a lead. Assumes nothing.
use Rattle.std.specs.Prelude.{◌≡◌, ℕ, ◌<◌, ◌≤◌, Bool, false, ◌≢◌, List, length, Option, Some, None, slice_index_or}
use Rattle.network.specs.declared.track.Track.{Track}
use Rattle.label.specs.declared.xor.Xor.{Xor}
use Rattle.label.specs.Groups.{Group}
use Rattle.label.specs.Kinds.{xors}
use Rattle.graph.specs.Yards.{track, Open, Bridge, CutPair}
use Rattle.circulation.specs.Labels.{label}
use Rattle.circulation.specs.Labellings.{Labelling}
use Rattle.circulation.specs.Units.{units}
use Rattle.judging.specs.Accepting.{Alike}

-- the lowest track with a label like that of t is l
pub record LedBy {K : Type 0} (G : Group K) (ks : List K) (t l : ℕ) : Type 0 where
  pub low : l ≤ t
  pub alike : Alike G (label G ks l) (label G ks t)
  pub lowest : (u : ℕ) → u < l → ¬ Alike G (label G ks u) (label G ks t)

-- just a track that carries zero has no lead, and another has the lowest track with a label like its own
abbrev pub LeadOf : {K : Type 0} → Group K → List K → ℕ → Option ℕ → Type 0
LeadOf G ks t None = label G ks t ≡ G.zero
LeadOf G ks t (Some l) = (label G ks t ≢ G.zero) × LedBy G ks t l

-- the lead of t in a list of leads
abbrev pub lead : List (Option ℕ) → ℕ → Option ℕ
lead leads t = slice_index_or leads t None

-- each track has its lead
abbrev pub LeadsOf : {K : Type 0} → Group K → List K → List (Option ℕ) → Type 0
LeadsOf G ks leads = (t : ℕ) → LeadOf G ks t (lead leads t)

-- no lead is above its track
abbrev pub Low : List (Option ℕ) → Type 0
Low leads = (t l : ℕ) → lead leads t ≡ Some l → l ≤ t

-- a track t with the lead l: the lead is not above it, and neither is a bridge or shut
pub record Led (y : List Track) (t l : ℕ) : Type 0 where
  pub low : l ≤ t
  pub is_open : Open y t
  pub lead_open : Open y l
  pub no_bridge : ¬ Bridge y t
  pub lead_no_bridge : ¬ Bridge y l

-- open tracks without a lead are bridges, and others make a cut pair with their lead
pub record Confirmed (y : List Track) (leads : List (Option ℕ)) : Type 0 where
  pub bridges : (t : ℕ) → t < length y → lead leads t ≡ None → Open y t → Bridge y t
  pub pairs : (t l : ℕ) → t < length y → lead leads t ≡ Some l → l < t → CutPair y l t

-- the label of kind X of the track t, open or shut, is that of its lead, or zero where it is open and has none
abbrev pub AgreesAt : Bool → Option ℕ → List Xor → ℕ → Type 0
AgreesAt shut None vs t = shut ≡ false → label xors vs t ≡ xors.zero
AgreesAt shut (Some l) vs t = label xors vs t ≡ label xors vs l

-- this holds of the tracks below n
abbrev pub Agrees : List Track → List (Option ℕ) → List Xor → ℕ → Type 0
Agrees y leads vs n = (t : ℕ) → t < n → AgreesAt (track y t).shut (lead leads t) vs t

-- so do the labels that the words of the round draw
abbrev pub RoundAgrees : List Track → List (Option ℕ) → ℕ → Type 0
RoundAgrees y leads r = (vs : List Xor) → Labelling xors y (units r) vs → Agrees y leads vs (length y)
