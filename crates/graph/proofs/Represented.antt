-- Representatives while the tracks are taken in one by one. Assumes nothing.
use Rattle.std.proofs.Common.{◌≡◌, ℕ, suc, ◌<◌, true, false, cond, eqb, List, [], get_or, take, sym, refl, ◌∙◌, subst, inl, ⊎_elim, arith}
use mathlib.Core.Logic.{⊎_map}
use Rattle.std.proofs.lemmas.Bool.{true≢false}
use Rattle.network.specs.declared.track.Track.{Track}
use Rattle.graph.specs.Yards.{Joined, here, track}
use Rattle.graph.specs.Representing.{Represents}
use Rattle.graph.proofs.Joins.{link, Within}
use Rattle.graph.proofs.Decide.{agree_more, agree_same, from_nothing}
use Rattle.graph.proofs.Fronts.{take_more, take_wider, link_take}

pub represents_start : (of : List ℕ) → ((k : ℕ) → k < 512 → get_or of k 0 ≡ k) → Represents of []
represents_start of h a b p q = (λ e. subst (Joined [] a) (sym (h a p) ∙ e ∙ h b q) here, λ j. h a p ∙ from_nothing a b j ∙ sym (h b q))

module _ (of : List ℕ) (y : List Track) (i : ℕ) (held : Represents of (take i y)) where
  grown : Within (take i y) (take (suc i) y)
  grown c d l = link (take_wider i y c d l)

  pub represents_shut : (track y i).shut ≡ true → Represents of (take (suc i) y)
  represents_shut e = agree_same _ _ grown (λ c d l. ⊎_elim link (λ h. absurd (true≢false (sym e ∙ h.0))) (take_more i y c d l)) held

  pub represents_open : (track y i).shut ≡ false → (track y i).first < 512 → (track y i).second < 512 → (of' : List ℕ) → ((p : ℕ) → p < 512 → get_or of' p 0 ≡ cond (eqb (get_or of p 0) (get_or of (track y i).first 0)) (get_or of (track y i).second 0) (get_or of p 0)) → Represents of' (take (suc i) y)
  represents_open e f s of' is a b p q =
      let merged = agree_more (λ a. a < 512) (λ p. get_or of p 0) (track y i) f s held grown (link (link_take (suc i) y i _ _ (omega arith) e (inl (refl, refl)))) (λ c d l. ⊎_map link (λ h. h.1) (take_more i y c d l)) a b p q in
      (λ h. merged.0 (sym (is a p) ∙ h ∙ is b q), λ j. is a p ∙ merged.1 j ∙ sym (is b q))
