-- Whatever is drawn, a labelling carries it: send each chord's word round through the forest. Assumes nothing.
use Rattle.std.proofs.Common.{◌≡◌, ℕ, zero, suc, ◌<◌, ◌≤◌, ◌≢◌, ◌⊎◌, List, length, take, sym, refl, ap, ◌∙◌, subst, ap₂, inl, inr, ⊎_elim, arith}
use Rattle.std.proofs.lemmas.Bool.{true≢false, cases_eq, cases_Bool}
use Rattle.network.specs.declared.track.Track.{Track}
use Rattle.graph.specs.Yards.{Open, track, only}
use Rattle.label.specs.Groups.{Group}
use Rattle.graph.specs.Forests.{InForest, Chord}
use Rattle.circulation.specs.Labellings.{Labelling}
use Rattle.graph.proofs.Joins.{turn}
use Rattle.graph.proofs.Decide.{joined_or}
use Rattle.graph.proofs.Subyards.{open_only}
use Rattle.graph.proofs.Fronts.{open_within}
use Rattle.graph.proofs.Tests.{in_forest?, decides_forest}
use Rattle.graph.proofs.Counting.{count_same}
use Rattle.graph.proofs.Parting.{spans_front}
use Rattle.circulation.proofs.Unique.{chords}
use Rattle.circulation.proofs.Steady.{balanced}
use Rattle.circulation.proofs.Rounds.{Even, round, round_even, round_zero, round_at, even_balanced}
use Rattle.circulation.proofs.Flows.{listed, label_listed, amount_zero, amount_sum}

module _ (y : List Track) where
  abbrev forest : List Track
  forest = only (in_forest? y) y

  pub chord_or : (t : ℕ) → Chord y t ⊎ (¬ Chord y t)
  chord_or t =
      ⊎_elim
      (λ s. inr (λ c. true≢false (sym s ∙ c.0)))
      (λ o. ⊎_elim (λ j. inl (o, j)) (λ m. inr (λ c. m c.1)) (joined_or (take t y) (track y t).first (track y t).second))
      (cases_Bool (track y t).shut)

  forest_open : (t : ℕ) → Open forest t → InForest y t
  forest_open t o = (decides_forest y t).0 (open_only (in_forest? y) y t o).0

module _ {K : Type 0} (G : Group K) (y : List Track) where
  -- k on the chord t, and back through the forest
  abbrev around : (t : ℕ) → Chord y t → K → ℕ → K
  around t c k = round G (in_forest? y) y t (spans_front y (in_forest? y) (λ u f. (decides_forest y u).1 f) t (turn c.1)) k

  around_even : (t : ℕ) (c : Chord y t) (k : K) → Even G y (around t c k)
  around_even t c k = round_even G (in_forest? y) y t (spans_front y (in_forest? y) (λ u f. (decides_forest y u).1 f) t (turn c.1)) k c.0

  -- nothing on a track that is neither t nor in the forest
  around_zero : (t : ℕ) (c : Chord y t) (k : K) (u : ℕ) → ¬ InForest y u → u ≢ t → around t c k u ≡ G.zero
  around_zero t c k u n d = round_zero G (in_forest? y) y t (spans_front y (in_forest? y) (λ u f. (decides_forest y u).1 f) t (turn c.1)) k u (λ o. n (forest_open y u o)) d

  around_at : (t : ℕ) (c : Chord y t) (k : K) → around t c k t ≡ k
  around_at t c k = round_at G (in_forest? y) y t (spans_front y (in_forest? y) (λ u f. (decides_forest y u).1 f) t (turn c.1)) k (λ o. (forest_open y t o).1 c.1)

  module _ (drawn : ℕ → K) where
    abbrev part : (t : ℕ) → Chord y t ⊎ (¬ Chord y t) → ℕ → K
    part t (inl c) = around t c (drawn (chords y t).0)
    part t (inr n) = λ _. G.zero

    abbrev parts : ℕ → ℕ → K
    parts zero u = G.zero
    parts (suc n) u = G.sum (parts n u) (part n (chord_or y n) u)

    part_even : (t : ℕ) (c : Chord y t ⊎ (¬ Chord y t)) → Even G y (part t c)
    part_even t (inl c) = around_even t c _
    part_even t (inr n) = λ p. amount_zero G y _ ∙ sym (amount_zero G y _)

    parts_even : (n : ℕ) → Even G y (parts n)
    parts_even zero p = amount_zero G y _ ∙ sym (amount_zero G y _)
    parts_even (suc n) p = amount_sum G y _ _ _ ∙ ap₂ G.sum (parts_even n p) (part_even n (chord_or y n) p) ∙ sym (amount_sum G y _ _ _)

    part_zero : (t : ℕ) (c : Chord y t ⊎ (¬ Chord y t)) (u : ℕ) → ¬ InForest y u → (Chord y u → u ≢ t) → part t c u ≡ G.zero
    part_zero t (inl c) u n d = around_zero t c _ u n (λ e. d (subst (λ (w : ℕ). Chord y w) (sym e) c) e)
    part_zero t (inr m) u n d = refl

    parts_zero : (n u : ℕ) → ¬ InForest y u → (Chord y u → n ≤ u) → parts n u ≡ G.zero
    parts_zero zero u m h = refl
    parts_zero (suc n) u m h = ap₂ G.sum (parts_zero n u m (λ c. let l = h c in omega arith)) (part_zero n (chord_or y n) u m (λ c. let l = h c in omega arith)) ∙ G.unit _

    part_at : (t : ℕ) (c : Chord y t ⊎ (¬ Chord y t)) → Chord y t → part t c t ≡ drawn (chords y t).0
    part_at t (inl c) d = around_at t c _
    part_at t (inr n) d = absurd (n d)

    parts_at : (n u : ℕ) → Chord y u → u < n → parts n u ≡ drawn (chords y u).0
    parts_at zero u c h = absurd (omega arith)
    parts_at (suc n) u c h =
        ⊎_elim
        (λ e. ap₂ G.sum (parts_zero n u (λ f. f.1 c.1) (λ _. omega arith)) (subst (λ (w : ℕ). part w (chord_or y w) u ≡ drawn (chords y u).0) e (part_at u (chord_or y u) c)) ∙ G.unit _)
        (λ ne. ap₂ G.sum (parts_at n u c (omega arith)) (part_zero n (chord_or y n) u (λ f. f.1 c.1) (λ _. ne)) ∙ G.comm _ _ ∙ G.unit _)
        (cases_eq u n)

    pub labelled : List K
    labelled = listed G (length y) (parts (length y))

    pub labelling_exists : Labelling G y drawn labelled
    unfolding labelled
    labelling_exists = record {
      balanced = balanced G y _ (even_balanced G y (parts (length y)) (parts_even (length y)) (λ t s. parts_zero (length y) t (λ f. true≢false (sym s ∙ f.0)) (λ c. absurd (true≢false (sym s ∙ c.0)))));
      carries = λ t i n c. label_listed G (length y) (parts (length y)) t (open_within y t c.0) ∙ parts_at (length y) t c (open_within y t c.0) ∙ ap drawn (count_same (chords y t).1 n);
    }
