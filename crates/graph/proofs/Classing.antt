-- Cut classes: each open track that has a partner is in exactly one. Assumes nothing.
use Rattle.std.proofs.Common.{◌≡◌, ℕ, ◌<◌, ◌≤◌, Bool, false, ◌||◌, eqb, ◌≢◌, ◌⊎◌, List, length, Decides, sym, refl, ◌∙◌, inl, inr, ⊎_elim, arith}
use Rattle.std.proofs.lemmas.Bool.{true≢false, cases_Bool, cases_eq}
use Rattle.std.proofs.lemmas.Bool.Decides.{Decides-or, Decides-eqb}
use Rattle.network.specs.declared.track.Track.{Track}
use Rattle.graph.specs.Counts.{Count}
use Rattle.graph.specs.Yards.{Open, CutPair}
use Rattle.graph.specs.Classes.{In, CutClass, Fellow, InClass, InNoClass}
use Rattle.graph.proofs.Counting.{count_same, count_like, count_two, counted_other}
use Rattle.graph.proofs.Fronts.{open_within}
use Rattle.graph.proofs.Cuts.{pair_sym, pair_trans}
use Rattle.graph.proofs.Tests.{pair?, decides_pair}

module _ (y : List Track) where
  -- a track and its partners
  abbrev pub partners : ℕ → ℕ → Bool
  partners t u = eqb u t || pair? y t u

  pub decides_partners : (t u : ℕ) → Decides (partners t u) (Fellow y t u)
  decides_partners t u = Decides-or _ _ (Decides-eqb u t) (decides_pair y t u)

  both : (t v w : ℕ) → (v ≡ t) ⊎ CutPair y t v → (w ≡ t) ⊎ CutPair y t w → v ≢ w → CutPair y v w
  both t v w (inl e) (inl f) d = absurd (d (e ∙ sym f))
  both t v w (inl e) (inr q) d = rw e q
  both t v w (inr p) (inl f) d = rw f (pair_sym y t v p)
  both t v w (inr p) (inr q) d = pair_trans y v t w (pair_sym y t v p) q d

  pub class_of : (t u : ℕ) → CutPair y t u → CutClass y (partners t)
  class_of t u p = record {
    two_or_more = (t, u, (decides_partners t t).1 (inl refl), (decides_partners t u).1 (inr p), p.different);
    all_open = λ v h. ⊎_elim (λ e. rw e p.open_first) (λ q. q.open_second) ((decides_partners t v).0 h);
    any_two = λ v w h k d. both t v w ((decides_partners t v).0 h) ((decides_partners t w).0 k) d;
    no_further = λ v all. let q = pair_sym y v t (all t ((decides_partners t t).1 (inl refl))) in (all v ((decides_partners t v).1 (inr q))).different refl;
  }

  pub some_class : (t u : ℕ) → CutPair y t u → (S : ℕ → Bool) × CutClass y S × In S t × In S u
  some_class t u p = (partners t, class_of t u p, (decides_partners t t).1 (inl refl), (decides_partners t u).1 (inr p))

  -- a track in two classes: what one has, the other has
  into : (S R : ℕ → Bool) (t : ℕ) → CutClass y S → CutClass y R → In S t → In R t → (u : ℕ) → In S u → In R u
  into S R t s r a b u h = ⊎_elim (λ e. rw e b) (λ ne. ⊎_elim (λ k. k) (λ out. absurd (r.no_further u (joins ne out))) (cases_Bool (R u))) (cases_eq u t)
    where
      joins : u ≢ t → R u ≡ false → (x : ℕ) → In R x → CutPair y u x
      joins ne out x k =
          let p = s.any_two u t h a ne in
          ⊎_elim
          (λ e. rw e p)
          (λ d. pair_trans y u t x p (r.any_two t x b k (λ e. d (sym e))) (λ e. true≢false (sym k ∙ rw e at out)))
          (cases_eq x t)

  pub one_class : (S R : ℕ → Bool) (t : ℕ) → CutClass y S → CutClass y R → In S t → In R t → (u : ℕ) → S u ≡ R u
  one_class S R t s r a b u =
      ⊎_elim
      (λ h. h ∙ sym (into S R t s r a b u h))
      (λ n. ⊎_elim (λ k. absurd (true≢false (sym (into R S t r s b a u k) ∙ n))) (λ m. n ∙ sym m) (cases_Bool (R u)))
      (cases_Bool (S u))

  pub in_one_class : (t lead size lead' size' : ℕ) → InClass y t lead size → InClass y t lead' size' → (lead ≡ lead') × (size ≡ size')
  in_one_class t lead size lead' size' a b =
      let same = one_class a.members b.members t a.is_class b.is_class a.is_in b.is_in in
      let low : lead ≤ lead' = a.lead_is.1 lead' (same lead' ∙ b.lead_is.0) in
      let high : lead' ≤ lead = b.lead_is.1 lead (sym (same lead) ∙ a.lead_is.0) in
      (omega arith, count_same (count_like (λ m _ h. sym (same m) ∙ h) (λ m _ h. same m ∙ h) a.size_is) b.size_is)

  -- a track with no partner is in no class
  pub no_partner : (t : ℕ) → ((u : ℕ) → ¬ CutPair y t u) → InNoClass y t
  no_partner t none S c h =
      ⊎_elim
      (λ e. none c.two_or_more.1 (c.any_two t c.two_or_more.1 h c.two_or_more.3 (λ f. c.two_or_more.4 (e ∙ f))))
      (λ ne. none c.two_or_more.0 (c.any_two t c.two_or_more.0 h c.two_or_more.2 (λ f. ne (sym f))))
      (cases_eq c.two_or_more.0 t)

  fellow_within : (t u : ℕ) → Open y t → Fellow y t u → u < length y
  fellow_within t u o (inl e) = omega (arith, e, open_within y t o)
  fellow_within t u o (inr p) = open_within y u p.open_second

  -- the fellows of an open track, where there are two or more, are its class
  pub found_class : (t lead size : ℕ) → Open y t → 2 ≤ size → Count (Fellow y t) (length y) size → Fellow y t lead → ((k : ℕ) → k < length y → Fellow y t k → lead ≤ k) → InClass y t lead size
  found_class t lead size o two count is low =
      let u = counted_other t count two in
      record {
        members = partners t;
        is_class = class_of t u.0 (⊎_elim (λ e. absurd (u.1 e)) (λ p. p) u.2);
        is_in = (decides_partners t t).1 (inl refl);
        lead_is = ((decides_partners t lead).1 is, λ k h. let f = (decides_partners t k).0 h in low k (fellow_within t k o f) f);
        size_is = count_like (λ m _ f. (decides_partners t m).1 f) (λ m _ h. (decides_partners t m).0 h) count;
      }

  -- and where there are fewer, it is in none
  pub found_none : (t size : ℕ) → Open y t → size < 2 → Count (Fellow y t) (length y) size → InNoClass y t
  found_none t size o few count =
      no_partner t (λ u p. let two = count_two count (open_within y t o) (open_within y u p.open_second) p.different (inl refl) (inr p) in omega arith)
