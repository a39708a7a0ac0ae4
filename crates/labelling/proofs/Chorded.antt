-- Chords by the flags of the forest, and what is drawn for one chord more. Assumes nothing.
use Rattle.std.proofs.Common.{◌≡◌, ℕ, zero, suc, ◌+◌, ◌<◌, ◌≤◌, Bool, true, false, not, ◌&&◌, ◌≢◌, List, length, get_or, take, set, count_by, Decides, sym, ap, ◌∙◌, subst, ⊎_elim, add-one, arith}
use Rattle.std.proofs.lemmas.List.{get_or-set_same, get_or-set_other, take_all}
use Rattle.std.proofs.lemmas.Bool.{cases_eq, cases_Bool}
use Rattle.std.proofs.lemmas.Bool.Decides.{Decides-and, Decides-at, Decides-not, Decides-like, not_from_Decides}
use Rattle.std.proofs.lemmas.List.Sums.{count_by_more_yes, count_by_more_no}
use Rattle.std.proofs.lemmas.Slice.Zip.{get_or-zip, length-zip}
use Rattle.std.specs.List.{zip}
use Rattle.network.specs.declared.track.Track.{Track}
use Rattle.label.specs.Groups.{Group}
use Rattle.graph.specs.Counts.{Count, start, one, other}
use Rattle.graph.specs.Degrees.{flagged}
use Rattle.graph.specs.Forests.{Chord, InForest, WordsNeeded}
use Rattle.graph.specs.Yards.{none, track}
use Rattle.graph.proofs.Counting.{count_same}
use Rattle.graph.proofs.Decide.{joined_or}
use Rattle.graph.proofs.Tests.{decides_open}
use Rattle.circulation.specs.Labels.{label}
use Rattle.labelling.specs.Settled.{ChordsDrawn}

-- an open track is a chord exactly if it is not in the forest
decides_chord : (y : List Track) (t : ℕ) (r : Bool) → Decides r (InForest y t) → Decides (not (track y t).shut && not r) (Chord y t)
decides_chord y t r d =
    Decides-like _
    (λ w. (w.0, ⊎_elim (λ j. j) (λ n. absurd (w.1 (w.0, n))) (joined_or (take t y) (track y t).first (track y t).second)))
    (λ c. (c.0, λ f. f.1 c.1))
    (Decides-and _ _ (decides_open y t) (Decides-not r d))

-- the answer of the code's test, on a track as it is read
module _ (y : List Track) (t : ℕ) (r : Bool) (x : Track) (is : x ≡ track y t) (d : Decides r (InForest y t)) (answer : Bool) (e : answer ≡ (not x.shut && not r)) where
  told : answer ≡ (not (track y t).shut && not r)
  told = e ∙ ap (λ (z : Track). not z.shut && not r) is

  pub chord_told : answer ≡ true → Chord y t
  chord_told f = (decides_chord y t r d).0 (sym told ∙ f)

  pub no_chord_told : answer ≡ false → ¬ Chord y t
  no_chord_told f = not_from_Decides _ (decides_chord y t r d) (sym told ∙ f)

-- as many pass a test as numbers have the property that it decides
counted_by : {X : Type 0} (p : X → Bool) (P : ℕ → Type 0) (xs : List X) (d : X) → ((t : ℕ) → t < length xs → Decides (p (get_or xs t d)) (P t)) → (n : ℕ) → n ≤ length xs → Count P n (count_by p (take n xs))
counted_by p P xs d told zero h = start
counted_by p P xs d told (suc n) h =
    let low : n < length xs = omega arith in
    let below = counted_by p P xs d told n (omega arith) in
    ⊎_elim
    (λ yes. subst (λ (m : ℕ). Count P (suc n) m) (sym (ap (λ m. count_by p (take m xs)) (sym (add-one n)) ∙ count_by_more_yes p xs n d low yes ∙ add-one _)) (one below ((told n low).0 yes)))
    (λ no. subst (λ (m : ℕ). Count P (suc n) m) (sym (ap (λ m. count_by p (take m xs)) (sym (add-one n)) ∙ count_by_more_no p xs n d low no)) (other below (not_from_Decides _ (told n low) no)))
    (cases_Bool (p (get_or xs n d)))

-- the chords of a yard, by the flags of its forest
pub chords_counted : (y : List Track) (flags : List Bool) → length y ≤ length flags → ((t : ℕ) → Decides (flagged flags t) (InForest y t)) → WordsNeeded y (count_by (λ p. not p.0.shut && not p.1) (zip y flags))
chords_counted y flags room told =
    let all : length (zip y flags) ≡ length y = omega (arith, length-zip y flags) in
    let test = λ (p : Track × Bool). not p.0.shut && not p.1 in
    subst (λ xs. Count (Chord y) (length y) (count_by test xs)) (take_all (length y) (zip y flags) (omega arith))
    (counted_by test (Chord y) (zip y flags) (none, false)
    (λ t h. Decides-at _ _ (ap test (get_or-zip y flags t (none, false) (omega arith) (omega arith))) (decides_chord y t (flagged flags t) (told t)))
    (length y) (omega arith))

module _ {K : Type 0} (G : Group K) (y : List Track) (drawn : ℕ → K) (ks : List K) (n : ℕ) (low : n < length ks) (d : ChordsDrawn G y drawn ks n) (v : K) where
  at_new : label G (set ks n v) n ≡ v
  at_new = get_or-set_same ks n v G.zero low

  at_old : (t : ℕ) → t ≢ n → label G (set ks n v) t ≡ label G ks t
  at_old t ne = get_or-set_other ks n t v G.zero ne

  -- a chord
  pub drawn_more : (i : ℕ) → Count (Chord y) n i → Chord y n → v ≡ drawn i → ChordsDrawn G y drawn (set ks n v) (n + 1)
  drawn_more i c q is = record {
    chord = λ t j h e r. ⊎_elim
        (λ same. ap (label G (set ks n v)) same ∙ at_new ∙ is ∙ ap drawn (count_same c (subst (λ (w : ℕ). Count (Chord y) w j) same e)))
        (λ ne. at_old t ne ∙ d.chord t j (omega (arith, ne)) e r)
        (cases_eq t n);
    other = λ t h r. ⊎_elim (λ same. absurd (r (subst (Chord y) (sym same) q))) (λ ne. at_old t ne ∙ d.other t (omega (arith, ne)) r) (cases_eq t n);
  }

  -- any other track
  pub zero_more : ¬ Chord y n → v ≡ G.zero → ChordsDrawn G y drawn (set ks n v) (n + 1)
  zero_more q is = record {
    chord = λ t j h e r. ⊎_elim (λ same. absurd (q (subst (Chord y) same r))) (λ ne. at_old t ne ∙ d.chord t j (omega (arith, ne)) e r) (cases_eq t n);
    other = λ t h r. ⊎_elim (λ same. ap (label G (set ks n v)) same ∙ at_new ∙ is) (λ ne. at_old t ne ∙ d.other t (omega (arith, ne)) r) (cases_eq t n);
  }
