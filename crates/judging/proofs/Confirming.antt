-- Leads that agree with every round are right, and right leads agree with every round. Assumes nothing.
use Rattle.std.proofs.Common.{◌≡◌, ℕ, ◌*◌, ◌<◌, ◌≤◌, Bool, List, length, Option, Some, None, Ok, Err, Decides, Result, IsOk, sym, refl, ap, subst, inl, inr, ⊎_elim, arith}
use Rattle.std.proofs.lemmas.Bool.{cases_eq}
use Rattle.std.proofs.lemmas.Bool.Decides.{Decides-like}
use Rattle.network.specs.Refusals.{numbered}
use Rattle.network.specs.declared.track.Refusal.{Refusal}
use Rattle.network.specs.declared.track.Track.{Track}
use Rattle.graph.specs.Forests.{WordsNeeded}
use Rattle.graph.specs.Yards.{track}
use Rattle.label.specs.declared.xor.Xor.{Xor}
use Rattle.label.specs.Kinds.{xors}
use Rattle.circulation.specs.Labels.{label}
use Rattle.circulation.specs.Units.{units}
use Rattle.circulation.proofs.Carried.{zero_on_bridge, alike_on_pair}
use Rattle.circulation.proofs.Exists.{labelled, labelling_exists}
use Rattle.circulation.proofs.Steady.{steady}
use Rattle.circulation.proofs.Unique.{labelling_unique}
use Rattle.graph.proofs.Counting.{count_same}
use Rattle.labelling.specs.Told.{TheLabelling, LabelAnswer}
use Rattle.circulation.proofs.Units.{units_bridge, units_pair}
use Rattle.judging.specs.Leads.{lead, Low, Led, Confirmed, AgreesAt, Agrees, RoundAgrees}

module _ (y : List Track) (leads : List (Option ℕ)) where
  -- what the labelling of a round tells of a track with this lead or none
  agreed : (r t : ℕ) → RoundAgrees y leads r → t < length y → (o : Option ℕ) → lead leads t ≡ o → AgreesAt (track y t).shut o (labelled xors y (units r)) t
  agreed r t a h o e = subst (λ l. AgreesAt (track y t).shut l (labelled xors y (units r)) t) e (a (labelled xors y (units r)) (labelling_exists xors y (units r)) t h)

  pub rounds_confirm : (n rounds : ℕ) → WordsNeeded y n → n ≤ rounds * 64 → ((t l : ℕ) → lead leads t ≡ Some l → Led y t l) → ((r : ℕ) → r < rounds → RoundAgrees y leads r) → Confirmed y leads
  rounds_confirm n rounds needed enough led agree = record {
    bridges = λ t h e o. units_bridge y n rounds needed enough t o (λ r k. agreed r t (agree r k) h None e o);
    pairs = λ t l h e low.
        let s = led t l e in
        units_pair y n rounds needed enough l t (omega arith) s.lead_open s.is_open s.lead_no_bridge s.no_bridge (λ r k. sym (agreed r t (agree r k) h (Some l) e));
  }

  pub confirmed_rounds : Low leads → Confirmed y leads → (r : ℕ) → RoundAgrees y leads r
  confirmed_rounds low c r vs is t h = go (lead leads t) refl
    where
      go : (o : Option ℕ) → lead leads t ≡ o → AgreesAt (track y t).shut o vs t
      go None e = λ o. zero_on_bridge xors y vs (steady xors y vs is.balanced) t (c.bridges t h e o)
      go (Some l) e =
          ⊎_elim
          (λ same. ap (label xors vs) (sym same))
          (λ ne. let p = alike_on_pair xors y vs (steady xors y vs is.balanced) l t (c.pairs t l h e (let le = low t l e in omega (arith, ne))) in sym (⊎_elim (λ e. e) (λ e. e) p))
          (cases_eq l t)

-- the labels of a round are the one labelling of its words, so that they tell of it
module _ (y : List Track) (leads : List (Option ℕ)) (r n : ℕ) (ks : List Xor) (drawn : ℕ → Xor) (is : TheLabelling xors y drawn n ks) (same : (i : ℕ) → i < n → units r i ≡ drawn i) where
  pub round_told : (b : Bool) → Decides b (Agrees y leads ks (length y)) → Decides b (RoundAgrees y leads r)
  round_told b d =
      let own = is.beyond (units r) same in
      Decides-like b (λ a vs v. subst (λ (l : List Xor). Agrees y leads l (length y)) (labelling_unique xors y (units r) ks vs own v) a) (λ all. all ks own) d

-- a labelling of as many labels as tracks and as many words as needed is not refused
module _ (y : List Track) (n : ℕ) (before after : List Xor) (drawn : ℕ → Xor) (long : length before ≡ length y) (needed : WordsNeeded y n) where
  pub not_refused : (answer : Result ℕ Refusal) → LabelAnswer xors y drawn n before after (numbered answer) → IsOk answer × TheLabelling xors y drawn n after
  not_refused (Ok m) (e, w, le, is) = (refl, subst (λ (k : ℕ). TheLabelling xors y drawn k after) (count_same w needed) is)
  not_refused (Err refusal) (inl (ne, e), same) = absurd (ne long)
  not_refused (Err refusal) (inr (e, (m, w, less), k), same) = absurd (let h = count_same w needed in omega arith)
