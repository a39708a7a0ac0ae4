-- Counting leads, and giving marks, one track more. Assumes nothing.
use Rattle.std.proofs.Common.{◌≡◌, ℕ, ◌+◌, ◌<◌, ◌≤◌, List, length, Option, Some, None, get_or, set, sym, ap, ◌∙◌, subst, ⊎_elim, arith}
use Rattle.std.proofs.lemmas.List.{get_or-set_same, get_or-set_other}
use Rattle.std.proofs.lemmas.Bool.{cases_eq}
use Rattle.network.specs.declared.track.Track.{Track}
use Rattle.graph.specs.Counts.{Count}
use Rattle.graph.specs.Yards.{track}
use Rattle.graph.proofs.Counting.{count_same, count_le, one_more, none_more}
use Rattle.sheet.specs.declared.mark.Mark.{Mark}
use Rattle.sheet.specs.declared.mark.Mark.TheVariants.{Shut}
use Rattle.sheet.specs.Marks.{mark_at}
use Rattle.judging.specs.Leads.{lead}
use Rattle.judging.specs.Marking.{mark_by, Sized, size_of, MarkedAt, Marked}

module _ (leads : List (Option ℕ)) (sizes : List ℕ) (n : ℕ) (d : Sized leads sizes n) where
  pub size_le : (l : ℕ) → l < 2048 → get_or sizes l 0 ≤ n
  size_le l h = count_le (d l h)

  -- a track with no lead
  pub size_same : lead leads n ≡ None → Sized leads sizes (n + 1)
  size_same none l h = none_more (λ t. lead leads t ≡ Some l) n (get_or sizes l 0) (d l h) (λ e. let w = sym none ∙ e in cc)

  -- a track with a lead
  pub size_more : (l : ℕ) → lead leads n ≡ Some l → l < length sizes → Sized leads (set sizes l (get_or sizes l 0 + 1)) (n + 1)
  size_more l is room k h =
      ⊎_elim
      (λ same.
      subst (Count (λ t. lead leads t ≡ Some k) (n + 1)) (sym (ap (λ j. get_or (set sizes l (get_or sizes l 0 + 1)) j 0) same ∙ get_or-set_same sizes l (get_or sizes l 0 + 1) 0 room ∙ ap (λ j. get_or sizes j 0 + 1) (sym same)))
      (one_more (λ t. lead leads t ≡ Some k) n (get_or sizes k 0) (d k h) (is ∙ ap Some (sym same))))
      (λ ne.
      subst (Count (λ t. lead leads t ≡ Some k) (n + 1)) (sym (get_or-set_other sizes l k (get_or sizes l 0 + 1) 0 ne))
      (none_more (λ t. lead leads t ≡ Some k) n (get_or sizes k 0) (d k h) (λ e. ne (let w = sym e ∙ is in cc))))
      (cases_eq k l)

module _ (y : List Track) (leads : List (Option ℕ)) (ms : List Mark) (n : ℕ) (d : Marked y leads ms n) (room : n < length ms) (m : Mark) where
  abbrev new : List Mark
  new = set ms n m

  pub marked_more : MarkedAt y leads new n → Marked y leads new (n + 1)
  marked_more own t h =
      ⊎_elim
      (λ same. subst (MarkedAt y leads new) (sym same) own)
      (λ ne.
      let old = d t (omega (arith, ne)) in
      let at : mark_at new t ≡ mark_at ms t = get_or-set_other ms n t m Shut ne in
      record { led = λ l s e c. at ∙ old.led l s e c; free = λ e. at ∙ old.free e })
      (cases_eq t n)

  -- the mark of the code: its lead as it is read, and the count of that lead
  pub marked_own : (sizes : List ℕ) → Sized leads sizes (length y) → ((l : ℕ) → lead leads n ≡ Some l → l < 2048) → m ≡ mark_by (track y n).shut (lead leads n) (size_of sizes (lead leads n)) → MarkedAt y leads new n
  marked_own sizes s low is = record {
    led = λ l k e c. at ∙ ap (λ o. mark_by (track y n).shut o (size_of sizes o)) e ∙ ap (mark_by (track y n).shut (Some l)) (count_same (s l (low l e)) c);
    free = λ e. at ∙ ap (λ o. mark_by (track y n).shut o (size_of sizes o)) e;
  }
    where
      at : mark_at new n ≡ mark_by (track y n).shut (lead leads n) (size_of sizes (lead leads n))
      at = get_or-set_same ms n m Shut room ∙ is
