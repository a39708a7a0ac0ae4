-- Labels that balance are accepted exactly where their leads are right. Assumes nothing.
use Rattle.std.proofs.Common.{◌≡◌, ℕ, ◌<◌, ◌≤◌, ◌≢◌, ◌⊎◌, List, length, Option, Some, None, sym, ap, ◌∙◌, subst, refl, inl, inr, ⊎_elim, arith}
use Rattle.std.proofs.lemmas.List.{get_or_past}
use Rattle.std.proofs.lemmas.Bool.{cases_Bool, cases_eq, cases_lt, true≢false}
use Rattle.network.specs.declared.track.Track.{Track}
use Rattle.graph.specs.Yards.{track, Open, Bridge, CutPair}
use Rattle.graph.proofs.Cuts.{pair_sym, pair_trans}
use Rattle.label.specs.Groups.{Group}
use Rattle.circulation.specs.Labels.{label, Balanced}
use Rattle.circulation.proofs.Carried.{zero_on_bridge}
use Rattle.circulation.proofs.Steady.{steady}
use Rattle.circulation.proofs.Totals.{opposite_from}
use Rattle.judging.specs.Accepting.{Alike, Accepted}
use Rattle.judging.specs.Leads.{LedBy, LeadOf, lead, LeadsOf, Low, Led, Confirmed}

module _ {K : Type 0} (G : Group K) where
  opposite_twice : (a : K) → G.opposite (G.opposite a) ≡ a
  opposite_twice a = sym (opposite_from G (G.opposite a) a (G.inverse a))

  opposite_zero : G.opposite G.zero ≡ G.zero
  opposite_zero = sym (opposite_from G G.zero G.zero (G.unit G.zero))

  -- equal or opposite is an equivalence
  pub alike_back : {a b : K} → Alike G a b → Alike G b a
  alike_back (inl e) = inl (sym e)
  alike_back {b = b} (inr e) = inr (sym (opposite_twice b) ∙ ap G.opposite (sym e))

  pub alike_on : {a b c : K} → Alike G a b → Alike G b c → Alike G a c
  alike_on (inl e) (inl f) = inl (e ∙ f)
  alike_on (inl e) (inr f) = inr (e ∙ f)
  alike_on (inr e) (inl f) = inr (e ∙ ap G.opposite f)
  alike_on {c = c} (inr e) (inr f) = inl (e ∙ ap G.opposite f ∙ opposite_twice c)

  alike_zero : {a b : K} → Alike G a b → b ≡ G.zero → a ≡ G.zero
  alike_zero (inl e) z = e ∙ z
  alike_zero (inr e) z = e ∙ ap G.opposite z ∙ opposite_zero

  -- leads that are right of the first n tracks are right where no more tracks carry labels
  pub leads_whole : (ks : List K) (leads : List (Option ℕ)) (n : ℕ) → length leads ≡ n → length ks ≤ n → ((t : ℕ) → t < n → LeadOf G ks t (lead leads t)) → LeadsOf G ks leads
  leads_whole ks leads n long few each t = ⊎_elim (λ h. each t h) (λ past. subst (LeadOf G ks t) (sym (get_or_past leads t None (omega arith))) (get_or_past ks t G.zero (omega arith))) (cases_lt t n)

  module _ (ks : List K) (leads : List (Option ℕ)) (d : LeadsOf G ks leads) where
    -- what a track carries that has a lead, and one that has none
    lead_is : (t l : ℕ) → lead leads t ≡ Some l → (label G ks t ≢ G.zero) × LedBy G ks t l
    lead_is t l e = subst (LeadOf G ks t) e (d t)

    pub lead_carries : (t l : ℕ) → lead leads t ≡ Some l → label G ks t ≢ G.zero
    lead_carries t l e = (lead_is t l e).0

    pub led_by : (t l : ℕ) → lead leads t ≡ Some l → LedBy G ks t l
    led_by t l e = (lead_is t l e).1

    free_zero : (t : ℕ) → lead leads t ≡ None → label G ks t ≡ G.zero
    free_zero t e = subst (LeadOf G ks t) e (d t)

    has_lead : (t : ℕ) → label G ks t ≢ G.zero → (l : ℕ) × (lead leads t ≡ Some l)
    has_lead t n = go (lead leads t) refl
      where
        go : (o : Option ℕ) → lead leads t ≡ o → (l : ℕ) × (lead leads t ≡ Some l)
        go None e = absurd (n (free_zero t e))
        go (Some l) e = (l, e)

    zero_free : (t : ℕ) → label G ks t ≡ G.zero → lead leads t ≡ None
    zero_free t z = go (lead leads t) refl
      where
        go : (o : Option ℕ) → lead leads t ≡ o → lead leads t ≡ None
        go None e = e
        go (Some l) e = absurd (lead_carries t l e z)

    pub leads_low : Low leads
    leads_low t l e = (led_by t l e).low

    pub lead_other : (t l : ℕ) → lead leads t ≡ Some l → label G ks l ≢ G.zero
    lead_other t l e z = lead_carries t l e (alike_zero (alike_back (led_by t l e).alike) z)

    -- tracks with labels alike have one lead
    pub one_lead : (t u l : ℕ) → lead leads t ≡ Some l → Alike G (label G ks t) (label G ks u) → lead leads u ≡ Some l
    one_lead t u l e a =
        let (k, f) = has_lead u (λ z. lead_carries t l e (alike_zero a z)) in
        let s = led_by t l e in
        let r = led_by u k f in
        let same : k ≡ l =
        ⊎_elim
        (λ h. absurd (r.lowest l h (alike_on s.alike a)))
        (λ h. ⊎_elim (λ h'. absurd (s.lowest k h' (alike_on r.alike (alike_back a)))) (λ h'. omega arith) (cases_lt k l))
        (cases_lt l k) in
        f ∙ ap Some same

    -- tracks with one lead have labels alike
    pub led_alike : (t u l : ℕ) → lead leads t ≡ Some l → lead leads u ≡ Some l → Alike G (label G ks t) (label G ks u)
    led_alike t u l e f = alike_on (alike_back (led_by t l e).alike) (led_by u l f).alike

    module _ (y : List Track) (b : Balanced G y ks) where
      -- a track that carries another label than zero is open and no bridge
      pub carries_open : (t : ℕ) → label G ks t ≢ G.zero → Open y t
      carries_open t n = ⊎_elim (λ s. absurd (n (b.shut_zero t s))) (λ o. o) (cases_Bool (track y t).shut)

      pub carries_no_bridge : (t : ℕ) → label G ks t ≢ G.zero → ¬ Bridge y t
      carries_no_bridge t n br = n (zero_on_bridge G y ks (steady G y ks b) t br)

      pub are_led : (t l : ℕ) → lead leads t ≡ Some l → Led y t l
      are_led t l e = record {
        low = leads_low t l e;
        is_open = carries_open t (lead_carries t l e);
        lead_open = carries_open l (lead_other t l e);
        no_bridge = carries_no_bridge t (lead_carries t l e);
        lead_no_bridge = carries_no_bridge l (lead_other t l e);
      }

      -- a track is its own lead, or makes a cut pair with it
      module _ (c : Confirmed y leads) where
        with_lead : (t l : ℕ) → t < length y → lead leads t ≡ Some l → (l ≡ t) ⊎ CutPair y l t
        with_lead t l h e = ⊎_elim (λ same. inl same) (λ ne. inr (c.pairs t l h e (let low = leads_low t l e in omega (arith, ne)))) (cases_eq l t)

        joined : (l t u : ℕ) → t ≢ u → (l ≡ t) ⊎ CutPair y l t → (l ≡ u) ⊎ CutPair y l u → CutPair y t u
        joined l t u ne (inl e) (inl f) = absurd (ne (sym e ∙ f))
        joined l t u ne (inl e) (inr q) = subst (λ (v : ℕ). CutPair y v u) e q
        joined l t u ne (inr p) (inl f) = subst (CutPair y t) f (pair_sym y l t p)
        joined l t u ne (inr p) (inr q) = pair_trans y t l u (pair_sym y l t p) q ne

        pub confirmed_accepted : Accepted G y ks
        confirmed_accepted = record {
          balanced = b;
          only_bridges = λ t h z. ⊎_elim (λ s. inl s) (λ o. inr (c.bridges t h (zero_free t z) o)) (cases_Bool (track y t).shut);
          only_pairs = λ t u h k ne n a. let (l, e) = has_lead t n in joined l t u ne (with_lead t l h e) (with_lead u l k (one_lead t u l e a));
        }

      pub accepted_confirmed : Accepted G y ks → Confirmed y leads
      accepted_confirmed a = record {
        bridges = λ t h e o. ⊎_elim (λ s. absurd (true≢false (sym s ∙ o))) (λ br. br) (a.only_bridges t h (free_zero t e));
        pairs = λ t l h e low. a.only_pairs l t (omega arith) h (omega arith) (lead_other t l e) (led_by t l e).alike;
      }
