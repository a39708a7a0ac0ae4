-- Marks by the definitions: a track has one, and what marks tell of bridges, classes and cut pairs. Assumes nothing.
use Rattle.std.proofs.Common.{◌≡◌, ℕ, ◌<◌, Bool, true, ◌≢◌, List, length, sym, refl, ap, ◌∙◌, subst, ap₂, ⊎_elim}
use Rattle.std.proofs.lemmas.Bool.{true≢false, false≢true, cases_eq}
use Rattle.network.specs.declared.track.Track.{Track}
use Rattle.graph.specs.Classes.{In, CutClass, InClass, InNoClass, LeadsClass}
use Rattle.graph.specs.Yards.{track, Open, Bridge, CutPair}
use Rattle.graph.proofs.Classing.{some_class, one_class, in_one_class}
use Rattle.sheet.specs.declared.mark.Mark.{Mark}
use Rattle.sheet.specs.declared.mark.Mark.TheVariants.{Shut, Single, Mates, Alone}
use Rattle.sheet.specs.Asked.{LeadMark, MateMarks}
use Rattle.sheet.specs.Marks.{MarkOf, mark_at, MarksOf, is_mates, lead_in, size_in}

module _ (y : List Track) (t : ℕ) where
  class_open : {l s : ℕ} → InClass y t l s → Open y t
  class_open c = c.is_class.all_open t c.is_in

  -- some other track of its class
  class_pair : {l s : ℕ} → InClass y t l s → (u : ℕ) × CutPair y t u
  class_pair c =
      let k = c.is_class in
      let (u, v, in-u, in-v, ne) = k.two_or_more in
      ⊎_elim (λ e. (v, k.any_two t v c.is_in in-v (λ f. ne (e ∙ f)))) (λ d. (u, k.any_two t u c.is_in in-u (λ f. d (sym f)))) (cases_eq u t)

  class_no_bridge : {l s : ℕ} → InClass y t l s → ¬ Bridge y t
  class_no_bridge c = (class_pair c).1.not_bridge_first

  shut_open : (track y t).shut ≡ true → Open y t → ⊥
  shut_open s o = true≢false (sym s ∙ o)

  in_no_class : {l s : ℕ} → InNoClass y t → InClass y t l s → ⊥
  in_no_class n c = n c.members c.is_class c.is_in

  -- the definitions give a track one mark
  pub one_mark : (m n : Mark) → MarkOf y t m → MarkOf y t n → m ≡ n
  one_mark Shut Shut a b = refl
  one_mark Shut Single a b = absurd (shut_open a b.0)
  one_mark Shut (Mates l s) a b = absurd (shut_open a (class_open b))
  one_mark Shut Alone a b = absurd (shut_open a b.0)
  one_mark Single Shut a b = absurd (shut_open b a.0)
  one_mark Single Single a b = refl
  one_mark Single (Mates l s) a b = absurd (class_no_bridge b a)
  one_mark Single Alone a b = absurd (b.1 a)
  one_mark (Mates l s) Shut a b = absurd (shut_open b (class_open a))
  one_mark (Mates l s) Single a b = absurd (class_no_bridge a b)
  one_mark (Mates l s) (Mates k r) a b = let w = in_one_class y t l s k r a b in ap₂ Mates w.0 w.1
  one_mark (Mates l s) Alone a b = absurd (in_no_class b.2 a)
  one_mark Alone Shut a b = absurd (shut_open b a.0)
  one_mark Alone Single a b = absurd (a.1 b)
  one_mark Alone (Mates l s) a b = absurd (in_no_class a.2 b)
  one_mark Alone Alone a b = refl

-- two tracks of one class have one lead and size
moved : (y : List Track) (t u l s : ℕ) (c : InClass y t l s) → In c.members u → InClass y u l s
moved y t u l s c h = record { members = c.members; is_class = c.is_class; is_in = h; lead_is = c.lead_is; size_is = c.size_is }

-- marks that are those of a yard
module _ (y : List Track) (ms : List Mark) (right : MarksOf y ms) where
  -- a track that is marked single is a bridge, and no other
  pub single_bridge : (t : ℕ) → t < length y → mark_at ms t ≡ Single → Bridge y t
  single_bridge t h e = subst (MarkOf y t) e (right.each t h)

  pub bridge_single : (t : ℕ) → t < length y → Bridge y t → mark_at ms t ≡ Single
  bridge_single t h b = one_mark y t (mark_at ms t) Single (right.each t h) b

  class_mates : (t l s : ℕ) → t < length y → InClass y t l s → mark_at ms t ≡ Mates l s
  class_mates t l s h c = one_mark y t (mark_at ms t) (Mates l s) (right.each t h) c

  -- what is marked mates is in a class
  mates_class : (t : ℕ) → t < length y → is_mates (mark_at ms t) ≡ true → InClass y t (lead_in (mark_at ms t)) (size_in (mark_at ms t))
  mates_class t h e = go (mark_at ms t) (right.each t h) e
    where
      go : (m : Mark) → MarkOf y t m → is_mates m ≡ true → InClass y t (lead_in m) (size_in m)
      go Shut a f = absurd (false≢true f)
      go Single a f = absurd (false≢true f)
      go (Mates l s) a f = a
      go Alone a f = absurd (false≢true f)

  pub lead_class : (t : ℕ) → t < length y → LeadMark ms t → LeadsClass y t
  lead_class t h (m, e) = (size_in (mark_at ms t), subst (λ (l : ℕ). InClass y t l (size_in (mark_at ms t))) e (mates_class t h m))

  pub class_lead : (t : ℕ) → t < length y → LeadsClass y t → LeadMark ms t
  class_lead t h (s, c) = let e = class_mates t t s h c in (ap is_mates e, ap lead_in e)

  pub together_pair : (u t : ℕ) → u < length y → t < length y → u ≢ t → MateMarks ms u t → CutPair y u t
  together_pair u t k h ne (m, n, e) =
      let a = mates_class u k m in
      let b = mates_class t h n in
      let shared : In b.members (lead_in (mark_at ms u)) = subst (In b.members) (sym e) b.lead_is.0 in
      let same = one_class y a.members b.members (lead_in (mark_at ms u)) a.is_class b.is_class a.lead_is.0 shared in
      a.is_class.any_two u t a.is_in (same t ∙ b.is_in) ne

  classed_mates : (t : ℕ) → t < length y → (S : ℕ → Bool) → CutClass y S → In S t → Open y t → ¬ Bridge y t → is_mates (mark_at ms t) ≡ true
  classed_mates t h S c i o n = go (mark_at ms t) (right.each t h)
    where
      go : (m : Mark) → MarkOf y t m → is_mates m ≡ true
      go Shut a = absurd (true≢false (sym a ∙ o))
      go Single a = absurd (n a)
      go (Mates l s) a = refl
      go Alone a = absurd (a.2 S c i)

  pub pair_together : (u t : ℕ) → u < length y → t < length y → CutPair y u t → MateMarks ms u t
  pair_together u t k h p =
      let w = some_class y u t p in
      let mates-u = classed_mates u k w.0 w.1 w.2 p.open_first p.not_bridge_first in
      let mates-t = classed_mates t h w.0 w.1 w.3 p.open_second p.not_bridge_second in
      let a = mates_class u k mates-u in
      let same = one_class y w.0 a.members u w.1 a.is_class w.2 a.is_in in
      (mates-u, mates-t, (in_one_class y t _ _ _ _ (moved y u t _ _ a (sym (same t) ∙ w.3)) (mates_class t h mates-t)).0)
