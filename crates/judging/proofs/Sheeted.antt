-- The marks that accepted labels give are those of the yard. Assumes nothing.
use Rattle.std.proofs.Common.{◌≡◌, ℕ, zero, suc, ◌<◌, ◌≤◌, true, false, cond, ltb, ◌≢◌, ◌⊎◌, List, length, Option, Some, None, take, sym, refl, ap, ◌∙◌, subst, inl, inr, ⊎_elim, arith}
use Rattle.std.proofs.lemmas.List.{get_or-take, get_or_past}
use Rattle.std.proofs.lemmas.Bool.{cases_Bool, cases_eq, cases_lt, false≢true, cond-true, cond-false, lt-ltb, le-ltb}
use Rattle.network.specs.declared.track.Track.{Track}
use Rattle.graph.specs.Classes.{Fellow}
use Rattle.graph.specs.Counts.{Count, start, one, other}
use Rattle.graph.specs.Yards.{track, Open}
use Rattle.graph.proofs.Classing.{found_class, found_none}
use Rattle.graph.proofs.Counting.{count_like}
use Rattle.label.specs.Groups.{Group}
use Rattle.circulation.specs.Labels.{label, Balanced}
use Rattle.circulation.proofs.Carried.{alike_on_pair}
use Rattle.circulation.proofs.Steady.{steady}
use Rattle.sheet.specs.declared.mark.Mark.{Mark}
use Rattle.sheet.specs.declared.mark.Mark.TheVariants.{Shut, Mates, Alone}
use Rattle.sheet.specs.Marks.{MarkOf, mark_at, MarksOf, is_mates, lead_in, size_in, LedWell, WellLed}
use Rattle.judging.specs.Accepting.{Accepted}
use Rattle.judging.specs.Leads.{lead, LeadsOf, Confirmed}
use Rattle.judging.specs.Marking.{mark_by, Marked}
use Rattle.judging.proofs.Acceptance.{alike_back, lead_carries, led_by, carries_open, carries_no_bridge, one_lead, led_alike, confirmed_accepted}

-- each number of tracks has a count of a property that is decided
counts : (P : ℕ → Type 0) → ((t : ℕ) → P t ⊎ (¬ P t)) → (n : ℕ) → (k : ℕ) × Count P n k
counts P or zero = (0, start)
counts P or (suc n) = go (counts P or n) (or n)
  where
    go : (k : ℕ) × Count P n k → P n ⊎ (¬ P n) → (k : ℕ) × Count P (suc n) k
    go (k, c) (inl p) = (suc k, one c p)
    go (k, c) (inr q) = (k, other c q)

-- whether a lead is l is decided
is_some : (l : ℕ) (o : Option ℕ) → (o ≡ Some l) ⊎ (¬ (o ≡ Some l))
is_some l None = inr (λ e. cc)
is_some l (Some k) = ⊎_elim (λ e. inl (ap Some e)) (λ ne. inr (λ e. ne (let w = e in cc))) (cases_eq k l)

module _ {K : Type 0} (G : Group K) (ks : List K) (leads : List (Option ℕ)) (d : LeadsOf G ks leads) (y : List Track) (b : Balanced G y ks) (c : Confirmed y leads) (ms : List Mark) (long : length ms ≡ length y) (m : Marked y leads ms (length y)) where
  pub accepted : Accepted G y ks
  accepted = confirmed_accepted G ks leads d y b c

  -- how many tracks have the lead l
  size : (l : ℕ) → (k : ℕ) × Count (λ u. lead leads u ≡ Some l) (length y) k
  size l = counts (λ u. lead leads u ≡ Some l) (λ u. is_some l (lead leads u)) (length y)

  -- a track with a lead
  module _ (t l : ℕ) (h : t < length y) (e : lead leads t ≡ Some l) where
    carries : label G ks t ≢ G.zero
    carries = lead_carries G ks leads d t l e

    low : l ≤ t
    low = (led_by G ks leads d t l e).low

    is_open : Open y t
    is_open = carries_open G ks leads d y b t carries

    -- its partners are those with its lead
    with_lead : (u : ℕ) → u < length y → lead leads u ≡ Some l → Fellow y t u
    with_lead u k f = ⊎_elim (λ same. inl same) (λ ne. inr (accepted.only_pairs t u h k (λ g. ne (sym g)) carries (led_alike G ks leads d t u l e f))) (cases_eq u t)

    partner_lead : (u : ℕ) → Fellow y t u → lead leads u ≡ Some l
    partner_lead u (inl f) = ap (lead leads) f ∙ e
    partner_lead u (inr p) = one_lead G ks leads d t u l e (alike_on_pair G y ks (steady G y ks b) t u p)

    fellows : Count (Fellow y t) (length y) (size l).0
    fellows = count_like (λ u k f. with_lead u k f) (λ u _ f. partner_lead u f) (size l).1

    mark_is : mark_at ms t ≡ cond (ltb (size l).0 2) Alone (Mates l (size l).0)
    mark_is = (m t h).led l (size l).0 e (size l).1 ∙ ap (λ s. mark_by s (Some l) (size l).0) is_open

    -- the lead has itself for a lead
    lead_of_lead : lead leads l ≡ Some l
    lead_of_lead = one_lead G ks leads d t l l e (alike_back G (led_by G ks leads d t l e).alike)

    lead_lowest : (k : ℕ) → k < length y → Fellow y t k → l ≤ k
    lead_lowest k j f = (led_by G ks leads d k l (partner_lead k f)).low

    carrying_mark : MarkOf y t (mark_at ms t)
    carrying_mark =
        ⊎_elim
        (λ less. subst (MarkOf y t) (sym (mark_is ∙ cond-true _ _ _ (lt-ltb (size l).0 2 less))) (is_open, carries_no_bridge G ks leads d y b t carries, found_none y t (size l).0 is_open less fellows))
        (λ two.
        let k = low in
        subst (MarkOf y t) (sym (mark_is ∙ cond-false _ _ _ (le-ltb (size l).0 2 two)))
        (found_class y t l (size l).0 is_open two fellows (with_lead l (omega arith) lead_of_lead) lead_lowest))
        (cases_lt (size l).0 2)

    -- where it is marked mates, two tracks or more have its lead
    two_or_more : is_mates (mark_at ms t) ≡ true → 2 ≤ (size l).0
    two_or_more mates = ⊎_elim (λ less. absurd (false≢true (sym (ap is_mates (mark_is ∙ cond-true _ _ _ (lt-ltb (size l).0 2 less))) ∙ mates))) (λ two. two) (cases_lt (size l).0 2)

    mates_is : 2 ≤ (size l).0 → mark_at ms t ≡ Mates l (size l).0
    mates_is two = mark_is ∙ cond-false _ _ _ (le-ltb (size l).0 2 two)

  -- what is marked mates is led well
  mates_well : (t l : ℕ) → t < length y → lead leads t ≡ Some l → is_mates (mark_at ms t) ≡ true → LedWell ms t
  mates_well t l h e mates =
      let k = low t l h e in
      let two = two_or_more t l h e mates in
      let own = mates_is t l h e two in
      let at : mark_at ms (lead_in (mark_at ms t)) ≡ Mates l (size l).0 = ap (λ v. mark_at ms (lead_in v)) own ∙ mates_is l l (omega arith) (lead_of_lead t l h e) two in (
        subst (λ (j : ℕ). j ≤ t) (sym (ap lead_in own)) k,
        ap is_mates at,
        ap lead_in at ∙ sym (ap lead_in own),
        ap size_in at ∙ sym (ap size_in own),
      )

  -- a track with no lead
  module _ (t : ℕ) (h : t < length y) (e : lead leads t ≡ None) where
    free_mark : MarkOf y t (mark_at ms t)
    free_mark =
        ⊎_elim
        (λ s. subst (MarkOf y t) (sym ((m t h).free e ∙ ap (λ k. mark_by k None 0) s)) s)
        (λ o. subst (MarkOf y t) (sym ((m t h).free e ∙ ap (λ k. mark_by k None 0) o)) (c.bridges t h e o))
        (cases_Bool (track y t).shut)

    free_no_mates : is_mates (mark_at ms t) ≡ false
    free_no_mates = ⊎_elim (λ s. ap is_mates ((m t h).free e ∙ ap (λ k. mark_by k None 0) s)) (λ o. ap is_mates ((m t h).free e ∙ ap (λ k. mark_by k None 0) o)) (cases_Bool (track y t).shut)

  pub marks_right : MarksOf y ms
  marks_right = record { one_each = long; each = λ t h. go t h (lead leads t) refl }
    where
      go : (t : ℕ) → t < length y → (o : Option ℕ) → lead leads t ≡ o → MarkOf y t (mark_at ms t)
      go t h None e = free_mark t h e
      go t h (Some l) e = carrying_mark t l h e

  pub marks_led : WellLed ms
  marks_led t mates = ⊎_elim (λ h. go h (lead leads t) refl) (λ past. absurd (false≢true (sym (ap is_mates (get_or_past ms t Shut (omega arith))) ∙ mates))) (cases_lt t (length y))
    where
      go : t < length y → (o : Option ℕ) → lead leads t ≡ o → LedWell ms t
      go h None e = absurd (false≢true (sym (free_no_mates t h e) ∙ mates))
      go h (Some l) e = mates_well t l h e mates

-- the marks of the first n tracks alone
pub first_marked : (y : List Track) (leads : List (Option ℕ)) (ms : List Mark) (n : ℕ) → Marked y leads ms n → Marked y leads (take n ms) n
first_marked y leads ms n m t h =
    let at : mark_at (take n ms) t ≡ mark_at ms t = get_or-take n ms t Shut h in
    record { led = λ l s e c. at ∙ (m t h).led l s e c; free = λ e. at ∙ (m t h).free e }
