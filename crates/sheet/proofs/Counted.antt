-- Totals over marks: one mark more, and bounds. Assumes nothing.
use Rattle.std.proofs.Common.{◌≡◌, ℕ, zero, suc, ◌+◌, ◌*◌, ◌<◌, ◌≤◌, true, false, List, length, get_or, set, replicate, sym, refl, ap, ◌∙◌, ◌≢◌, subst, ⊎_elim, add-zero, add-one, arith}
use Rattle.std.proofs.lemmas.List.{get_or-set_same, get_or-set_other, get_or-replicate}
use Rattle.std.proofs.lemmas.Bool.{cases_eq, false≢true}
use Rattle.graph.specs.Counts.{Count, start, other, PairCount, no_pairs, more_pairs}
use Rattle.graph.proofs.Counting.{count_le, count_like, one_more, none_more}
use Rattle.sheet.specs.declared.mark.Mark.{Mark}
use Rattle.sheet.specs.declared.mark.Mark.TheVariants.{Shut, Single, Mates, Alone}
use Rattle.sheet.specs.declared.total.Totals.{Totals}
use Rattle.sheet.specs.Asked.{is_single, LeadMark, MateMarks, TotalsOf}
use Rattle.sheet.specs.Marks.{mark_at, is_mates, lead_in, WellLed}

-- of the first n marks, the list has at the place of each lead how many are mates with that lead
abbrev pub Seen : List Mark → List ℕ → ℕ → Type 0
Seen ms seen n = (l : ℕ) → l < 2048 → Count (λ t. (is_mates (mark_at ms t) ≡ true) × (lead_in (mark_at ms t) ≡ l)) n (get_or seen l 0)

pub pairs_le : {P : ℕ → ℕ → Type 0} {n k : ℕ} → PairCount P n k → n ≤ 2048 → k ≤ n * 2048
pairs_le no_pairs h = omega arith
pairs_le (more_pairs {n = n} {k = k} {j = j} a c) h = let le = pairs_le a (omega arith) in let few = count_le c in omega arith

count_none : (P : ℕ → Type 0) (n : ℕ) → ((u : ℕ) → ¬ P u) → Count P n 0
count_none P zero h = start
count_none P (suc n) h = other (count_none P n h) (h n)

pairs_more : (P : ℕ → ℕ → Type 0) (n k j : ℕ) → PairCount P n k → Count (λ u. P u n) n j → PairCount P (n + 1) (k + j)
pairs_more P n k j a c = subst (λ (m : ℕ). PairCount P m (k + j)) (sym (add-one n)) (more_pairs a c)

pub seen_none : (ms : List Mark) → Seen ms (replicate 2048 0) 0
seen_none ms l h = subst (Count (λ t. (is_mates (mark_at ms t) ≡ true) × (lead_in (mark_at ms t) ≡ l)) 0) (sym (get_or-replicate 2048 l 0 0 h)) start

module _ (ms : List Mark) (n : ℕ) (seen : List ℕ) (totals : Totals) (s : Seen ms seen n) (c : TotalsOf ms n totals) where
  -- a mark that is not mates
  module _ (plain : is_mates (mark_at ms n) ≡ false) where
    pub seen_same : Seen ms seen (n + 1)
    seen_same l h = none_more _ n (get_or seen l 0) (s l h) (λ w. false≢true (sym plain ∙ w.0))

    classes_same : Count (LeadMark ms) (n + 1) totals.classes
    classes_same = none_more (LeadMark ms) n totals.classes c.classes (λ w. false≢true (sym plain ∙ w.0))

    pairs_same : PairCount (MateMarks ms) (n + 1) totals.pairs
    pairs_same = subst (PairCount (MateMarks ms) (n + 1)) (add-zero totals.pairs) (pairs_more (MateMarks ms) n totals.pairs 0 c.pairs (count_none (λ u. MateMarks ms u n) n (λ u w. false≢true (sym plain ∙ w.1))))

  singles_same : is_single (mark_at ms n) ≡ false → Count (λ t. is_single (mark_at ms t) ≡ true) (n + 1) totals.singles
  singles_same f = none_more (λ t. is_single (mark_at ms t) ≡ true) n totals.singles c.singles (λ w. false≢true (sym f ∙ w))

  -- a mark that is neither single nor mates
  pub totals_same : is_single (mark_at ms n) ≡ false → is_mates (mark_at ms n) ≡ false → TotalsOf ms (n + 1) totals
  totals_same f plain = record { singles = singles_same f; classes = classes_same plain; pairs = pairs_same plain }

  -- a single mark
  pub single_more : mark_at ms n ≡ Single → TotalsOf ms (n + 1) (record { singles = totals.singles + 1; classes = totals.classes; pairs = totals.pairs; letter = totals.letter })
  single_more e = record {
    singles = one_more (λ t. is_single (mark_at ms t) ≡ true) n totals.singles c.singles (ap is_single e);
    classes = classes_same (ap is_mates e);
    pairs = pairs_same (ap is_mates e);
  }

  -- a mark of mates with the lead l
  module _ (l k : ℕ) (e : mark_at ms n ≡ Mates l k) (low : l < 2048) where
    pub seen_more : l < length seen → Seen ms (set seen l (get_or seen l 0 + 1)) (n + 1)
    seen_more room j h =
        let P : ℕ → Type 0 = λ t. (is_mates (mark_at ms t) ≡ true) × (lead_in (mark_at ms t) ≡ j) in
        ⊎_elim
        (λ same.
        subst (Count P (n + 1)) (sym (ap (λ i. get_or (set seen l (get_or seen l 0 + 1)) i 0) same ∙ get_or-set_same seen l (get_or seen l 0 + 1) 0 room ∙ ap (λ i. get_or seen i 0 + 1) (sym same)))
        (one_more P n (get_or seen j 0) (s j h) (ap is_mates e, ap lead_in e ∙ sym same)))
        (λ ne. subst (Count P (n + 1)) (sym (get_or-set_other seen l j (get_or seen l 0 + 1) 0 ne)) (none_more P n (get_or seen j 0) (s j h) (λ w. ne (sym w.1 ∙ ap lead_in e))))
        (cases_eq j l)

    mates_with : (classes : ℕ) → Count (LeadMark ms) (n + 1) classes → TotalsOf ms (n + 1) (record { singles = totals.singles; classes = classes; pairs = totals.pairs + get_or seen l 0; letter = totals.letter })
    mates_with classes led = record {
      singles = singles_same (ap is_single e);
      classes = led;
      pairs = pairs_more (MateMarks ms) n totals.pairs (get_or seen l 0) c.pairs (count_like (λ u _ w. (w.0, ap is_mates e, w.1 ∙ sym (ap lead_in e))) (λ u _ w. (w.0, w.2 ∙ ap lead_in e)) (s l low));
    }

    -- of the lead itself, and of another track
    pub lead_more : l ≡ n → TotalsOf ms (n + 1) (record { singles = totals.singles; classes = totals.classes + 1; pairs = totals.pairs + get_or seen l 0; letter = totals.letter })
    lead_more own = mates_with (totals.classes + 1) (one_more (LeadMark ms) n totals.classes c.classes (ap is_mates e, ap lead_in e ∙ own))

    pub mate_more : l ≢ n → TotalsOf ms (n + 1) (record { singles = totals.singles; classes = totals.classes; pairs = totals.pairs + get_or seen l 0; letter = totals.letter })
    mate_more ne = mates_with totals.classes (none_more (LeadMark ms) n totals.classes c.classes (λ w. ne (sym (ap lead_in e) ∙ w.1)))

-- a mark that is neither single nor mates, by the tests
pub neither : (m : Mark) → (¬ (m ≡ Single)) → ((l s : ℕ) → ¬ (m ≡ Mates l s)) → (is_single m ≡ false) × (is_mates m ≡ false)
neither Shut a b = (refl, refl)
neither Single a b = absurd (a refl)
neither (Mates l s) a b = absurd (b l s refl)
neither Alone a b = (refl, refl)

-- a mark of mates is read, and its lead is a track
pub mates_read : (ms read : List Mark) (t l s : ℕ) → WellLed ms → read ≡ ms → t < 2048 → mark_at read t ≡ Mates l s → (mark_at ms t ≡ Mates l s) × (l < 2048)
mates_read ms read t l s led same h e =
    let is = ap (λ m. mark_at m t) (sym same) ∙ e in
    (is, (let low = (led t (ap is_mates is)).0 in let own = ap lead_in is in omega arith))
