-- Taking in a track that is shut, that closes a cycle, or that joins what was apart. Assumes nothing.
use Rattle.std.proofs.Common.{◌≡◌, ℕ, ◌<◌, true, false, cond, eqb, ◌≢◌, List, length, get_or, sym, refl, ap, ◌∙◌, subst, arith}
use Rattle.std.proofs.lemmas.Bool.{true≢false}
use Rattle.std.proofs.lemmas.Bool.Decides.{nat_tests}
use Rattle.network.specs.Tracks.{Within}
use Rattle.network.specs.declared.track.Track.{Track}
use Rattle.graph.specs.Yards.{track}
use Rattle.graph.proofs.Represented.{represents_shut, represents_open}
use Rattle.yard.specs.Partitions.{TakenIn}

-- the representatives after those of u were replaced by v
abbrev pub Replaced : List ℕ → List ℕ → ℕ → ℕ → Type 0
Replaced before after u v = (p : ℕ) → p < length before → get_or after p 0 ≡ cond (eqb (get_or before p 0) u) v (get_or before p 0)

replaced_same : (q u v : ℕ) → u ≡ v → q ≡ cond (eqb q u) v q
replaced_same q u v e = grind (arith, nat_tests)

module _ (reps : List ℕ) (x : Track) where
  pub taken_shut : x.shut ≡ true → TakenIn reps reps x false
  taken_shut s = record {
    grown = λ y i lt at held. represents_shut reps y i held (ap (λ z. z.shut) at ∙ s);
    told = λ y i lt at held. (λ no. absurd (true≢false (sym no)), λ f. absurd (true≢false (sym (ap (λ z. z.shut) at ∙ s) ∙ f.0)));
  }

  module _ (o : x.shut ≡ false) (w : Within x) where
    open_at : (y : List Track) (i : ℕ) → track y i ≡ x → (track y i).shut ≡ false
    open_at y i at = ap (λ z. z.shut) at ∙ o

    within_at : (y : List Track) (i : ℕ) → track y i ≡ x → Within (track y i)
    within_at y i at = subst Within (sym at) w

    pub taken_chord : get_or reps x.first 0 ≡ get_or reps x.second 0 → TakenIn reps reps x false
    taken_chord e = record {
      grown = λ y i lt at held. let in_place = within_at y i at in represents_open reps y i held (open_at y i at) in_place.0 in_place.1 reps (λ p h. replaced_same (get_or reps p 0) _ _ (rw at e));
      told = λ y i lt at held. let in_place = within_at y i at in (λ no. absurd (true≢false (sym no)), λ f. absurd (f.1 ((held _ _ in_place.0 in_place.1).0 (rw at e))));
    }

    pub taken_tree : (after : List ℕ) → length reps ≡ 512 → get_or reps x.first 0 ≢ get_or reps x.second 0 → Replaced reps after (get_or reps x.first 0) (get_or reps x.second 0) → TakenIn reps after x true
    taken_tree after long ne is = record {
      grown = λ y i lt at held. let in_place = within_at y i at in represents_open reps y i held (open_at y i at) in_place.0 in_place.1 after (λ p h. rw at (is p (omega arith)));
      told = λ y i lt at held. let in_place = within_at y i at in (λ _. (open_at y i at, λ j. ne (rw at at ((held _ _ in_place.0 in_place.1).1 j))), λ _. refl);
    }
