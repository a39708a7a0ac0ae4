-- The labellings of words of one bit tell every two tracks apart that any labels do. Assumes nothing.
use Rattle.std.proofs.Common.{◌≡◌, ℕ, zero, suc, ◌*◌, ◌/◌, ◌%◌, ◌<◌, ◌≤◌, Bool, true, false, cond, ◌≢◌, ◌⊎◌, List, [], ◌∷◌, length, sym, refl, ap, ◌∙◌, ap₂, inl, inr, ⊎_elim, arith}
use Rattle.std.proofs.lemmas.Bool.{cases_eq, cases_lt}
use Rattle.network.specs.declared.track.Track.{Track}
use Rattle.graph.specs.Forests.{Chord, WordsNeeded}
use Rattle.graph.specs.Yards.{Open, track, Bridge, CutPair}
use Rattle.graph.proofs.Counting.{count_before}
use Rattle.graph.proofs.Fronts.{open_within}
use Rattle.graph.proofs.Tests.{bridge_or, pair_or}
use Rattle.label.specs.declared.xor.Xor.{Xor}
use Rattle.label.specs.Groups.{Group}
use Rattle.label.specs.Kinds.{word_label, xors}
use Rattle.circulation.specs.Labels.{label, total}
use Rattle.circulation.specs.Units.{units}
use Rattle.circulation.proofs.Bits.{picked, picked_zero, picked_sum, own_bit, other_bit}
use Rattle.circulation.proofs.Steady.{Steady, steady}
use Rattle.circulation.proofs.Unique.{chords, forest_decides}
use Rattle.circulation.proofs.Exists.{chord_or, labelled, labelling_exists}
use Rattle.circulation.proofs.Flows.{listed, label_listed, amount, amount_zero, amount_sum}
use Rattle.circulation.proofs.Rounds.{Even, even_balanced, told_bridge, told_apart}

-- labels as a list are their labels by number
listed_label : {K : Type 0} (G : Group K) (ks : List K) → ks ≡ listed G (length ks) (label G ks)
listed_label G [] = refl
listed_label G (k ∷ ks) = ap (λ l. k ∷ l) (listed_label G ks)

-- labels that balance do so by number
pub steady_even : {K : Type 0} (G : Group K) (y : List Track) (ks : List K) → Steady G y ks → Even G y (label G ks)
steady_even G y ks b p =
    let same : ks ≡ listed G (length y) (label G ks) = listed_label G ks ∙ ap (λ n. listed G n (label G ks)) b.one_each in
    ap (total G _ y) (sym same) ∙ b.at_point p ∙ ap (total G _ y) same

-- maps that keep zero and sums keep balance
module _ {K M : Type 0} (G : Group K) (H : Group M) (h : K → M) (at_zero : h G.zero ≡ H.zero) (at_sum : (a b : K) → h (G.sum a b) ≡ H.sum (h a) (h b)) where
  cond_image : (b : Bool) (k : K) → cond b (h k) H.zero ≡ h (cond b k G.zero)
  cond_image true k = refl
  cond_image false k = sym at_zero

  amount_image : (y : List Track) (pick : Track → Bool) (f : ℕ → K) → amount H y pick (λ t. h (f t)) ≡ h (amount G y pick f)
  amount_image [] pick f = sym at_zero
  amount_image (x ∷ y) pick f = ap₂ H.sum (cond_image (pick x) (f 0)) (amount_image y pick (λ t. f (suc t))) ∙ sym (at_sum _ _)

  pub even_image : (y : List Track) (f : ℕ → K) → Even G y f → Even H y (λ t. h (f t))
  even_image y f e p = amount_image y _ f ∙ ap h (e p) ∙ sym (amount_image y _ f)

-- the sum of the first n of some labels by number
module _ {K : Type 0} (G : Group K) where
  abbrev pub heap : (ℕ → ℕ → K) → ℕ → ℕ → K
  heap parts zero t = G.zero
  heap parts (suc n) t = G.sum (heap parts n t) (parts n t)

  heap_even : (y : List Track) (parts : ℕ → ℕ → K) → ((c : ℕ) → Even G y (parts c)) → (n : ℕ) → Even G y (heap parts n)
  heap_even y parts e zero p = amount_zero G y _ ∙ sym (amount_zero G y _)
  heap_even y parts e (suc n) p = amount_sum G y _ _ _ ∙ ap₂ G.sum (heap_even y parts e n p) (e n p) ∙ sym (amount_sum G y _ _ _)

  heap_none : (parts : ℕ → ℕ → K) (n t : ℕ) → ((c : ℕ) → c < n → parts c t ≡ G.zero) → heap parts n t ≡ G.zero
  heap_none parts zero t h = refl
  heap_none parts (suc n) t h = ap₂ G.sum (heap_none parts n t (λ c l. h c (omega arith))) (h n (omega arith)) ∙ G.unit _

  heap_one : (parts : ℕ → ℕ → K) (n t c : ℕ) → c < n → ((d : ℕ) → d ≢ c → parts d t ≡ G.zero) → heap parts n t ≡ parts c t
  heap_one parts zero t c l h = absurd (omega arith)
  heap_one parts (suc n) t c l h =
      ⊎_elim
      (λ e. ap₂ G.sum (heap_none parts n t (λ d k. h d (omega arith))) (ap (λ d. parts d t) (sym e)) ∙ G.unit _)
      (λ ne. ap₂ G.sum (heap_one parts n t c (omega (arith, ne)) h) (h n (λ e. ne (sym e))) ∙ G.comm _ _ ∙ G.unit _)
      (cases_eq c n)

  heap_same : (parts : ℕ → ℕ → K) (n t u : ℕ) → ((c : ℕ) → c < n → parts c t ≡ parts c u) → heap parts n t ≡ heap parts n u
  heap_same parts zero t u h = refl
  heap_same parts (suc n) t u h = ap₂ G.sum (heap_same parts n t u (λ c l. h c (omega arith))) (h n (omega arith))

module _ (y : List Track) where
  -- the labelling of the round r
  abbrev pub round_labels : ℕ → List Xor
  round_labels r = labelled xors y (units r)

  module _ (z : List Xor) (b : Steady xors y z) where
    -- what the chord c adds: its label, where its bit is set
    abbrev part : (c : ℕ) → Chord y c ⊎ (¬ Chord y c) → ℕ → Xor
    part c (inl _) t = let i = (chords y c).0 in picked (i % 64) (label xors z c) (label xors (round_labels (i / 64)) t)
    part c (inr _) t = word_label 0

    abbrev parts : ℕ → ℕ → Xor
    parts c = part c (chord_or y c)

    part_even : (c : ℕ) (o : Chord y c ⊎ (¬ Chord y c)) → Even xors y (part c o)
    part_even c (inl _) =
        let i = (chords y c).0 in
        even_image xors xors (picked (i % 64) (label xors z c)) (picked_zero (i % 64) (label xors z c)) (picked_sum (i % 64) (label xors z c)) y _ (steady_even xors y (round_labels (i / 64)) (steady xors y _ (labelling_exists xors y (units (i / 64))).balanced))
    part_even c (inr _) = λ p. amount_zero xors y _ ∙ sym (amount_zero xors y _)

    -- at the chord d, the chord c adds its own label or nothing
    part_own : (c : ℕ) (o : Chord y c ⊎ (¬ Chord y c)) → Chord y c → part c o c ≡ label xors z c
    part_own c (inl _) q =
        let i = chords y c in
        ap (picked (i.0 % 64) (label xors z c)) ((labelling_exists xors y (units (i.0 / 64))).carries c i.0 i.1 q) ∙ own_bit i.0 (label xors z c)
    part_own c (inr n) q = absurd (n q)

    apart : (c d : ℕ) → Chord y c → Chord y d → c ≢ d → (chords y d).0 ≢ (chords y c).0
    apart c d q r ne e =
        ⊎_elim
        (λ l. let h = count_before (chords y c).1 q l (chords y d).1 in omega arith)
        (λ l. let h = count_before (chords y d).1 r (omega (arith, ne)) (chords y c).1 in omega arith)
        (cases_lt c d)

    part_other : (c : ℕ) (o : Chord y c ⊎ (¬ Chord y c)) (d : ℕ) → Chord y d → c ≢ d → part c o d ≡ word_label 0
    part_other c (inl q) d r ne =
        let i = chords y c in
        let j = chords y d in
        ap (picked (i.0 % 64) (label xors z c)) ((labelling_exists xors y (units (i.0 / 64))).carries d j.0 j.1 r) ∙ other_bit i.0 j.0 (label xors z c) (apart c d q r ne)
    part_other c (inr n) d r ne = refl

    whole : ℕ → Xor
    whole = heap xors parts (length y)

    at_chord : (c : ℕ) → Chord y c → whole c ≡ label xors z c
    unfolding whole
    at_chord c q = heap_one xors parts (length y) c c (open_within y c q.0) (λ d ne. part_other d (chord_or y d) c q ne) ∙ part_own c (chord_or y c) q

    -- nothing on a shut track: round labels balance
    at_shut : (t : ℕ) → (track y t).shut ≡ true → whole t ≡ word_label 0
    unfolding whole
    at_shut t s = heap_none xors parts (length y) t (λ c _. none c (chord_or y c))
      where
        none : (c : ℕ) (o : Chord y c ⊎ (¬ Chord y c)) → part c o t ≡ word_label 0
        none c (inl _) = let i = chords y c in ap (picked (i.0 % 64) (label xors z c)) ((labelling_exists xors y (units (i.0 / 64))).balanced.shut_zero t s) ∙ picked_zero (i.0 % 64) (label xors z c)
        none c (inr _) = refl

    -- the labels are the sum of what the chords add
    is_whole : (t : ℕ) → t < length y → label xors z t ≡ whole t
    unfolding whole
    is_whole t h =
        ap (λ l. label xors l t)
        (forest_decides xors y z (listed xors (length y) whole) b (even_balanced xors y whole (heap_even xors y parts (λ c. part_even c (chord_or y c)) (length y)) at_shut)
        (λ c q. sym (at_chord c q) ∙ sym (label_listed xors (length y) whole c (open_within y c q.0))))
        ∙ label_listed xors (length y) whole t h

    -- tracks that agree in every round agree
    whole_same : (n rounds : ℕ) → WordsNeeded y n → n ≤ rounds * 64 → (t u : ℕ) → ((r : ℕ) → r < rounds → label xors (round_labels r) t ≡ label xors (round_labels r) u) → whole t ≡ whole u
    unfolding whole
    whole_same n rounds needed enough t u same = heap_same xors parts (length y) t u (λ c _. go c (chord_or y c))
      where
        go : (c : ℕ) (o : Chord y c ⊎ (¬ Chord y c)) → part c o t ≡ part c o u
        go c (inl q) =
            let i = chords y c in
            let low = count_before i.1 q (open_within y c q.0) needed in
            ap (picked (i.0 % 64) (label xors z c)) (same (i.0 / 64) (omega arith))
        go c (inr _) = refl

    whole_zero : (n rounds : ℕ) → WordsNeeded y n → n ≤ rounds * 64 → (t : ℕ) → ((r : ℕ) → r < rounds → label xors (round_labels r) t ≡ word_label 0) → whole t ≡ word_label 0
    unfolding whole
    whole_zero n rounds needed enough t none = heap_none xors parts (length y) t (λ c _. go c (chord_or y c))
      where
        go : (c : ℕ) (o : Chord y c ⊎ (¬ Chord y c)) → part c o t ≡ word_label 0
        go c (inl q) =
            let i = chords y c in
            let low = count_before i.1 q (open_within y c q.0) needed in
            ap (picked (i.0 % 64) (label xors z c)) (none (i.0 / 64) (omega arith)) ∙ picked_zero (i.0 % 64) (label xors z c)
        go c (inr _) = refl

  one_not_zero : word_label 1 ≢ word_label 0
  one_not_zero e = let z : ◌≡◌ {A = ℕ} 1 0 = ap (λ v. v.bits) e in omega arith

  module _ (n rounds : ℕ) (needed : WordsNeeded y n) (enough : n ≤ rounds * 64) where
    -- an open track that carries zero in every round is a bridge
    pub units_bridge : (t : ℕ) → Open y t → ((r : ℕ) → r < rounds → label xors (round_labels r) t ≡ word_label 0) → Bridge y t
    units_bridge t o none =
        ⊎_elim
        (λ b. b)
        (λ m.
        let (z, s, at) = told_bridge xors y t o m (word_label 1) in
        absurd (one_not_zero (sym at ∙ is_whole z s t (open_within y t o) ∙ whole_zero z s n rounds needed enough t none)))
        (bridge_or y t)

    -- two open tracks, no bridges, that agree in every round are a cut pair
    pub units_pair : (t u : ℕ) → t ≢ u → Open y t → Open y u → ¬ Bridge y t → ¬ Bridge y u → ((r : ℕ) → r < rounds → label xors (round_labels r) t ≡ label xors (round_labels r) u) → CutPair y t u
    units_pair t u ne o p m q same =
        ⊎_elim
        (λ c. c)
        (λ k.
        let (z, s, at, off) = told_apart xors y t u ne o p m q k (word_label 1) in
        absurd (one_not_zero (sym at ∙ is_whole z s t (open_within y t o) ∙ whole_same z s n rounds needed enough t u same ∙ sym (is_whole z s u (open_within y u p)) ∙ off)))
        (pair_or y t u)
