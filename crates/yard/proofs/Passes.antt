-- A pass over the tracks of a yard: the representatives at its start, from track to track, and at its end. Assumes nothing.
use Rattle.std.proofs.Common.{◌≡◌, ℕ, ◌+◌, ◌<◌, ◌≤◌, Bool, true, false, not, ◌&&◌, eqb, ◌≢◌, List, [], ◌∷◌, length, get_or, take, set, Decides, sym, refl, ap, ◌∙◌, subst, ⊎_elim, zero-add, add-one, arith, take_all, below_more}
use Rattle.std.specs.List.{list_any}
use Rattle.std.proofs.lemmas.List.FromFn.{get_or-range_with_len}
use Rattle.std.proofs.lemmas.List.{get_or-set_same, get_or-set_other}
use Rattle.std.proofs.lemmas.Bool.Decides.{nat_tests, Decides-at, Decides-and, Decides-not, Decides-like, not_from_Decides}
use Rattle.network.specs.Tracks.{each_point}
use Rattle.network.specs.declared.track.Track.{Track}
use Rattle.graph.specs.Counts.{Count}
use Rattle.graph.proofs.Counting.{one_more, none_more}
use Rattle.graph.specs.Yards.{track, among, shut_also, Open}
use Rattle.graph.specs.Forests.{InForest, Chord}
use Rattle.graph.specs.Representing.{Represents}
use Rattle.graph.proofs.Decide.{joined_or}
use Rattle.graph.proofs.Tests.{decides_open}
use Rattle.graph.proofs.Represented.{represents_start, represents_shut}
use Rattle.yard.specs.Partitions.{TakenIn}
use Rattle.yard.proofs.Records.{length_shut_also, track_shut, track_kept}

pub pass_start : (reps : List ℕ) → reps ≡ each_point → Represents reps []
pass_start reps e = represents_start reps (λ k h. ap (λ l. get_or l k 0) e ∙ get_or-range_with_len 0 512 k 0 h ∙ zero-add k)

module _ (y : List Track) where
  pub pass_more : (before after : List ℕ) (x : Track) (r : Bool) (k : ℕ) → TakenIn before after x r → k < length y → x ≡ track y k → Represents before (take k y) → Represents after (take (k + 1) y)
  pass_more before after x r k t h at held = subst (λ n. Represents after (take n y)) (sym (add-one k)) (t.grown y k h (sym at) held)

  pub pass_end : (reps : List ℕ) (k : ℕ) → length y ≤ k → Represents reps (take k y) → Represents reps y
  pass_end reps k h held = subst (Represents reps) (take_all k y h) held

  -- one more track is told, and counted where it is a chord
  module _ (before after : List ℕ) (x : Track) (r : Bool) (k : ℕ) (t : TakenIn before after x r) (h : k < length y) (at : x ≡ track y k) (held : Represents before (take k y)) where
    decides_chord : Decides (not x.shut && not r) (Chord y k)
    decides_chord =
        let told = t.told y k h (sym at) held in
        let is_open : Decides (not x.shut) (Open y k) = Decides-at _ _ (ap (λ z. not z.shut) at) (decides_open y k) in
        Decides-like _
        (λ d. (d.0, ⊎_elim (λ j. j) (λ m. absurd (d.1 (d.0, m))) (joined_or (take k y) (track y k).first (track y k).second)))
        (λ c. (c.0, λ f. f.1 c.1))
        (Decides-and _ _ is_open (Decides-not _ told))

    pub chord_more : (n : ℕ) → (not x.shut && not r) ≡ true → Count (Chord y) k n → Count (Chord y) (k + 1) (n + 1)
    chord_more n e c = one_more (Chord y) k n c (decides_chord.0 e)

    pub other_more : (n : ℕ) → (not x.shut && not r) ≡ false → Count (Chord y) k n → Count (Chord y) (k + 1) n
    other_more n e c = none_more (Chord y) k n c (not_from_Decides _ decides_chord e)

    pub told_more : (flags : List Bool) → k < length flags → ((j : ℕ) → j < k → Decides (get_or flags j false) (InForest y j)) → (j : ℕ) → j < k + 1 → Decides (get_or (set flags k r) j false) (InForest y j)
    told_more flags low before-it =
        below_more (λ j. Decides (get_or (set flags k r) j false) (InForest y j)) k
        (λ j l. let ne : j ≢ k = omega arith in Decides-at _ _ (get_or-set_other flags k j r false ne) (before-it j l))
        (Decides-at _ _ (get_or-set_same flags k r false low) (t.told y k h (sym at) held))

among_any : (ts : List ℕ) (k : ℕ) → list_any (λ u. eqb u k) ts ≡ among k ts
among_any [] k = refl
among_any (u ∷ us) k = let rest = among_any us k in grind (arith, nat_tests)

-- a track that is among those that are shut as well joins nothing, and any other joins as it is
module _ (y : List Track) (ts : List ℕ) (k : ℕ) (h : k < length y) where
  within_also : k < length (shut_also y ts)
  within_also = let long = length_shut_also y ts in omega arith

  pub pass_among : (reps : List ℕ) → list_any (λ u. eqb u k) ts ≡ true → Represents reps (take k (shut_also y ts)) → Represents reps (take (k + 1) (shut_also y ts))
  pass_among reps e held =
      let shut = ap (λ x. x.shut) (track_shut y ts k (sym (among_any ts k) ∙ e)) in
      subst (λ n. Represents reps (take n (shut_also y ts))) (sym (add-one k)) (represents_shut reps (shut_also y ts) k held shut)

  pub pass_others : (before after : List ℕ) (x : Track) (r : Bool) → list_any (λ u. eqb u k) ts ≡ false → TakenIn before after x r → x ≡ track y k → Represents before (take k (shut_also y ts)) → Represents after (take (k + 1) (shut_also y ts))
  pass_others before after x r e t at held =
      pass_more (shut_also y ts) before after x r k t within_also (at ∙ sym (track_kept y ts k (sym (among_any ts k) ∙ e))) held
