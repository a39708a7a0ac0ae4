-- What is proved of yards: each statement stands in the contract of a function of src/lib.rt. Assumes nothing.
use Rattle.std.specs.Prelude.{◌≡◌, ℕ, Bool, true, ◌≢◌, ◌⊎◌, ◌↔◌, List, [], ◌∷◌, Decides}
use Rattle.network.specs.declared.track.Track.{Track}
use Rattle.graph.specs.Yards.{track, Open, Joined, only, shut_also, Parts, Around, Bridge, CutPair}
use Rattle.graph.specs.Forests.{InForest, WordsNeeded, Leaf}
use Rattle.graph.specs.Groups.{Touched, LeadsGroup, GroupCount}
use Rattle.graph.specs.Classes.{In, CutClass, InClass, BridgeCount, ClassCount, CutPairCount}

-- joined is an equivalence, and more open tracks join more
pub record JoinedLaws : Type 0 where
  pub itself : (y : List Track) (a : ℕ) → Joined y a a
  pub back : (y : List Track) (a b : ℕ) → Joined y a b → Joined y b a
  pub on : (y : List Track) (a b c : ℕ) → Joined y a b → Joined y b c → Joined y a c
  pub wider : (y z : List Track) → ((t : ℕ) → Open y t → track z t ≡ track y t) → (a b : ℕ) → Joined y a b → Joined z a b

-- a and b are joined in y, or would be by x
abbrev pub Through : List Track → Track → ℕ → ℕ → Type 0
Through y x a b = Joined y a b ⊎ ((Joined y a x.first × Joined y x.second b) ⊎ (Joined y a x.second × Joined y x.first b))

-- what one open track joins besides what the others do
abbrev pub OneTrackMore : Type 0
OneTrackMore = (y : List Track) (t : ℕ) → Open y t → (a b : ℕ) → Joined y a b ↔ Through (shut_also y (t ∷ [])) (track y t) a b

-- tests that compute decide
pub record Decided : Type 0 where
  pub joined : (test : List Track → ℕ → ℕ → Bool) × ((y : List Track) (a b : ℕ) → Decides (test y a b) (Joined y a b))
  pub bridge : (test : List Track → ℕ → Bool) × ((y : List Track) (t : ℕ) → Decides (test y t) (Bridge y t))
  pub pair : (test : List Track → ℕ → ℕ → Bool) × ((y : List Track) (t u : ℕ) → Decides (test y t u) (CutPair y t u))
  pub parts : (test : List Track → ℕ → ℕ → Bool) × ((y : List Track) (t u : ℕ) → Decides (test y t u) (Parts y (t ∷ u ∷ [])))
  pub touched : (test : List Track → ℕ → Bool) × ((y : List Track) (p : ℕ) → Decides (test y p) (Touched y p))
  pub forest : (test : List Track → ℕ → Bool) × ((y : List Track) (t : ℕ) → Decides (test y t) (InForest y t))

-- bridges and cut pairs by the ends of one track; and what two tracks part together
pub record ByEnds : Type 0 where
  pub bridge : (y : List Track) (t : ℕ) → Bridge y t ↔ (Open y t × ¬ Around y (t ∷ []) t)
  pub pair : (y : List Track) (t u : ℕ) → t ≢ u → Open y t → Open y u → ¬ Bridge y t → CutPair y t u ↔ (¬ Around y (t ∷ u ∷ []) t)
  pub two : (y : List Track) (t u : ℕ) → Parts y (t ∷ u ∷ []) ↔ (Bridge y t ⊎ (Bridge y u ⊎ CutPair y t u))

-- cut pairs make classes: each open track that has a partner is in exactly one, with all its partners
pub record PairLaws : Type 0 where
  pub back : (y : List Track) (t u : ℕ) → CutPair y t u → CutPair y u t
  pub on : (y : List Track) (t u v : ℕ) → CutPair y t u → CutPair y u v → t ≢ v → CutPair y t v
  pub some_class : (y : List Track) (t u : ℕ) → CutPair y t u → (S : ℕ → Bool) × CutClass y S × In S t × In S u
  pub one_class : (y : List Track) (S R : ℕ → Bool) (t : ℕ) → CutClass y S → CutClass y R → In S t → In R t → (u : ℕ) → S u ≡ R u

-- the forest has no cycle: of any tracks of it, each is a bridge where they alone are open, and one has an end that no other has, away from any given point;
-- and it joins what the yard does
pub record ForestLaws : Type 0 where
  pub acyclic : (y : List Track) (keep : ℕ → Bool) → ((t : ℕ) → keep t ≡ true → InForest y t) → (t : ℕ) → keep t ≡ true → Bridge (only keep y) t
  pub leaf : (y : List Track) (keep : ℕ → Bool) → ((t : ℕ) → keep t ≡ true → InForest y t) → (t : ℕ) → keep t ≡ true → (r : ℕ) → Leaf y keep r
  pub spans : (y : List Track) (keep : ℕ → Bool) → ((t : ℕ) → InForest y t → keep t ≡ true) → (a b : ℕ) → Joined y a b → Joined (only keep y) a b

-- each number that a contract gives is the only one of its kind
pub record OneAnswer : Type 0 where
  pub words : (y : List Track) (m n : ℕ) → WordsNeeded y m → WordsNeeded y n → m ≡ n
  pub groups : (y : List Track) (m n : ℕ) → GroupCount y m → GroupCount y n → m ≡ n
  pub bridges : (y : List Track) (m n : ℕ) → BridgeCount y m → BridgeCount y n → m ≡ n
  pub classes : (y : List Track) (m n : ℕ) → ClassCount y m → ClassCount y n → m ≡ n
  pub cut_pairs : (y : List Track) (m n : ℕ) → CutPairCount y m → CutPairCount y n → m ≡ n
  pub in_class : (y : List Track) (t lead size lead' size' : ℕ) → InClass y t lead size → InClass y t lead' size' → (lead ≡ lead') × (size ≡ size')

-- each touched point is in the group of exactly one lowest point
pub record GroupLaws : Type 0 where
  pub some_lead : (y : List Track) (p : ℕ) → Touched y p → (q : ℕ) × LeadsGroup y q × Joined y q p
  pub one_lead : (y : List Track) (p q r : ℕ) → LeadsGroup y q → LeadsGroup y r → Joined y q p → Joined y r p → q ≡ r
