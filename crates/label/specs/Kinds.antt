-- The groups of the kinds of labels, and what words draw in them. Assumes nothing.
use Rattle.std.specs.Prelude.{◌≡◌, ℕ, ◌*◌, ◌/◌, ◌%◌, ◌^◌, bit_or, bit_xor}
use Rattle.std.proofs.Common.{ap, ap₂, arith}
use Rattle.std.specs.Int.Bits.{xor_assoc, xor_zero_l, xor_self}
use Rattle.std.proofs.lemmas.Nat.{xor_comm}
use Rattle.label.specs.declared.xor.Xor.{Xor}
use Rattle.label.specs.declared.sum.Sum32.{Sum32}
use Rattle.label.specs.declared.both.Both.{Both}
use Rattle.label.specs.Groups.{Group}
use Rattle.label.specs.Numbers.{wrapping, wrap, same, Below}

-- kind X: the word itself
abbrev pub word_label : ℕ → Xor
word_label n = record { bits = n }

-- kind X: exclusive or, each label its own opposite
abbrev pub xors : Group Xor
xors = record {
  zero = word_label 0;
  sum = λ a b. word_label (bit_xor a.bits b.bits);
  opposite = λ a. a;
  assoc = λ a b c. ap word_label (xor_assoc a.bits b.bits c.bits);
  comm = λ a b. ap word_label (xor_comm a.bits b.bits);
  unit = λ a. ap word_label (xor_zero_l a.bits);
  inverse = λ a. ap word_label (xor_self a.bits);
}

-- a label of kind S is a number below 2 ^ 32
abbrev pub sums_of : Below (2 ^ 32) → Sum32
sums_of n = record { value = n.0; below = n.1 }

abbrev pub of_sums : Sum32 → Below (2 ^ 32)
of_sums a = (a.value, a.below)

abbrev W : Group (Below (2 ^ 32))
W = wrapping (2 ^ 32) (omega arith)

-- kind S: addition modulo 2 ^ 32
abbrev pub sums : Group Sum32
sums = record {
  zero = sums_of W.zero;
  sum = λ a b. sums_of (W.sum (of_sums a) (of_sums b));
  opposite = λ a. sums_of (W.opposite (of_sums a));
  assoc = λ a b c. ap sums_of (W.assoc (of_sums a) (of_sums b) (of_sums c));
  comm = λ a b. ap sums_of (W.comm (of_sums a) (of_sums b));
  unit = λ a. ap sums_of (W.unit (of_sums a));
  inverse = λ a. ap sums_of (W.inverse (of_sums a));
}

-- the bound has one proof, so that the value decides
pub alike : (a b : Sum32) → a.value ≡ b.value → a ≡ b
alike a b e = ap sums_of (same (2 ^ 32) (omega arith) (of_sums a) (of_sums b) e)

-- kind S draws the low 32 bits of the word
abbrev pub low_bits : ℕ → Sum32
low_bits n = sums_of (wrap (2 ^ 32) (omega arith) n)

module _ {A B : Type 0} (G : Group A) (H : Group B) where
  abbrev both : A → B → Both A B
  both a b = record { left = a; right = b }

  -- kind B: each part by its own kind
  abbrev pub pairs : Group (Both A B)
  pairs = record {
    zero = both G.zero H.zero;
    sum = λ a b. both (G.sum a.left b.left) (H.sum a.right b.right);
    opposite = λ a. both (G.opposite a.left) (H.opposite a.right);
    assoc = λ a b c. ap₂ both (G.assoc a.left b.left c.left) (H.assoc a.right b.right c.right);
    comm = λ a b. ap₂ both (G.comm a.left b.left) (H.comm a.right b.right);
    unit = λ a. ap₂ both (G.unit a.left) (H.unit a.right);
    inverse = λ a. ap₂ both (G.inverse a.left) (H.inverse a.right);
  }

-- a word of 64 bits rotated left by 32: kind B draws its second part from it
abbrev pub rotated : ℕ → ℕ
rotated w = bit_or ((w * 2 ^ 32) % 2 ^ 64) (w / 2 ^ 32)
