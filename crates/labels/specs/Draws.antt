-- Labels of three kinds that the same words draw. Assumes nothing.
use Rattle.std.specs.Prelude.{◌≡◌, ℕ, ◌<◌, ◌≤◌, List, length, slice_index}
use Rattle.network.specs.Refusals.{refusal_number}
use Rattle.network.specs.declared.stop.Stop.{Stop}
use Rattle.network.specs.declared.stop.Stop.TheVariants.{Refused, NoMemory}
use Rattle.network.specs.declared.track.Refusal.{Refusal}
use Rattle.network.specs.declared.track.Track.{Track}
use Rattle.label.specs.Groups.{Group}
use Rattle.label.specs.Kinds.{xors, sums, pairs, word_label, low_bits, rotated}
use Rattle.label.specs.declared.xor.Xor.{Xor}
use Rattle.label.specs.declared.sum.Sum32.{Sum32}
use Rattle.label.specs.declared.both.Both.{Both}
use Rattle.graph.specs.Forests.{WordsNeeded}
use Rattle.labelling.specs.Told.{TheLabelling}

-- as many words as are needed draw these labels
pub record Drew {K : Type 0} (G : Group K) (y : List Track) (drawn : ℕ → K) (given : ℕ) (ks : List K) : Type 0 where
  pub needed : ℕ
  pub needed_are : WordsNeeded y needed
  pub enough : needed ≤ given
  pub labelling : TheLabelling G y drawn needed ks

-- why there are no labels: 8, fewer words than needed
abbrev pub TooFew : List Track → ℕ → Refusal → Type 0
TooFew y given r = (refusal_number r ≡ 8) × ((n : ℕ) → WordsNeeded y n → given < n)

-- why there are no labels: too few words, or want of memory
abbrev pub Stopped : List Track → ℕ → Stop → Type 0
Stopped y given (Refused r) = TooFew y given r
Stopped y given NoMemory = Unit {0}

-- a label of each kind for each track
pub record OneEach (y : List Track) (xs : List Xor) (ss : List Sum32) (bs : List (Both Xor Sum32)) : Type 0 where
  pub x : length xs ≡ length y
  pub s : length ss ≡ length y
  pub b : length bs ≡ length y

-- the labels of the kinds X, S and B that words draw
pub record Labels (words : List ℕ) (y : List Track) (xs : List Xor) (ss : List Sum32) (bs : List (Both Xor Sum32)) : Type 0 where
  pub x : Drew xors y (λ i. word_label (slice_index words i)) (length words) xs
  pub s : Drew sums y (λ i. low_bits (slice_index words i)) (length words) ss
  pub b : Drew (pairs xors sums) y (λ i. record { left = word_label (slice_index words i); right = low_bits (rotated (slice_index words i)) }) (length words) bs
