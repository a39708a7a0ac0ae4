-- A network with an annex, by the parts that it is joined from. `count` and `few` are the code's words for the tracks below and for the own ones that are shown. Assumes nothing.
use Rattle.std.specs.Prelude.{◌≡◌, ℕ, zero, suc, ◌+◌, ◌-◌, ◌<◌, ◌≤◌, min, Bool, true, false, cond, ◌&&◌, List, [], ◌∷◌, ◌++◌, length, take, set, is_ok, Some, None, Result, nat_lt, slice_index_or, slice_set, refl}
use Rattle.std.proofs.Common.{sym, ap, subst, ◌∙◌, ⊎_elim, arith}
use Rattle.std.proofs.lemmas.List.{length-append, length-take, get_or_append_left, get_or-append_right, get_or-take, length_push, take_all, append_assoc}
use Rattle.std.proofs.lemmas.Bool.{cases_lt, lt-ltb, le-ltb, ltb-true, and_parts, cond-true, cond-false, cond_both}
use Rattle.network.specs.Tracks.{no_track, are_points, open_track, Within, Points, Limits, track_at, answer_of, with_state, put_state, state_answer, state_after}
use Rattle.network.specs.declared.track.Track.{Track}
use Rattle.network.proofs.Layers.{at_within, at_past, at_front, at_back, after_front, after_back, length_after}
use Rattle.annex.specs.Annexed.{annexed, annexed_after, add_after, own_answer, own_after}

take_set_any : (m : ℕ) (xs : List Track) (j : ℕ) (t : Track) → take m (slice_set xs j t) ≡ slice_set (take m xs) j t
take_set_any zero xs j t = refl
take_set_any (suc m) [] j t = refl
take_set_any (suc m) (x ∷ xs) zero t = refl
take_set_any (suc m) (x ∷ xs) (suc j) t = ap (λ l. x ∷ l) (take_set_any m xs j t)

-- a track that is added is shown
pub add_shown : (below own : List Track) (first second : ℕ) → annexed below (add_after below own first second) ≡ annexed_after below own first second
add_shown below own first second =
    cond_both (are_points first second) _ _ Shows
    (λ e.
    cond_both (nat_lt (length own) 64 && nat_lt (length (annexed below own)) 2048) _ _ Shows
    (λ f. fits (ltb-true _ _ (and_parts (nat_lt (length own) 64) (nat_lt (length (annexed below own)) 2048) f).1))
    (λ f. refl))
    (λ e. refl)
  where
    Shows : Result (Unit {0}) ℕ → Type 0
    Shows r = annexed below (cond (is_ok r) (own ++ open_track first second ∷ []) own) ≡ cond (is_ok r) (annexed below own ++ open_track first second ∷ []) (annexed below own)

    fits : length (annexed below own) < 2048 → annexed below (own ++ open_track first second ∷ []) ≡ annexed below own ++ open_track first second ∷ []
    fits h =
        let both = length-append below (take (2048 - length below) own) in
        let cut = length-take (2048 - length below) own in
        let more = length_push own (open_track first second) in
        ap (λ l. below ++ l) (take_all (2048 - length below) (own ++ open_track first second ∷ []) (omega arith))
        ∙ ap (λ l. below ++ (l ++ open_track first second ∷ [])) (sym (take_all (2048 - length below) own (omega arith)))
        ∙ sym (append_assoc below (take (2048 - length below) own) (open_track first second ∷ []))

module _ (below own : List Track) (count : ℕ) (counted : count ≡ length below) where
  pub at_below : (k : ℕ) → k < count → track_at below k ≡ track_at (annexed below own) k
  at_below k h = sym (at_front below _ k (omega arith))

  -- a call that the network below took
  pub below_follows : (shut : Bool) (k : ℕ) → k < count → annexed (state_after shut below k) own ≡ state_after shut (annexed below own) k
  below_follows shut k h =
      ap (λ n. state_after shut below k ++ take (2048 - n) own) (length_after shut below k) ∙ sym (after_front shut below _ k (omega arith))

module _ (below own : List Track) (count len few : ℕ) (counted : count ≡ length below) (own-len : len ≡ length own) (shows : few ≡ min len (2048 - count)) where
  long : length (take (2048 - length below) own) ≡ few
  long = let cut = length-take (2048 - length below) own in omega arith

  pub length_annexed : count + few ≡ length (annexed below own)
  length_annexed = let both = length-append below (take (2048 - length below) own) in let part = long in omega arith

  at_own : (k : ℕ) → count ≤ k → track_at (annexed below own) k ≡ track_at (take (2048 - length below) own) (k - count)
  at_own k h = at_back below _ k (omega arith) ∙ ap (λ n. track_at (take (2048 - length below) own) (k - n)) (sym counted)

  pub at_shown : (k : ℕ) → count ≤ k → k - count < few → track_at (annexed below own) k ≡ Some (slice_index_or own (k - count) no_track)
  at_shown k h l =
      let part = long in
      let cut = length-take (2048 - length below) own in
      at_own k h ∙ at_within _ (k - count) (omega arith) ∙ ap Some (get_or-take (2048 - length below) own (k - count) no_track (omega arith))

  pub at_hidden : (k : ℕ) → count ≤ k → few ≤ k - count → track_at (annexed below own) k ≡ None
  at_hidden k h l = let part = long in at_own k h ∙ at_past _ (k - count) (omega arith)

  pub own_answers : (shut : Bool) (k : ℕ) → count ≤ k → own_answer shut few own (k - count) ≡ state_answer shut (annexed below own) k
  own_answers shut k h =
      ⊎_elim
      (λ l. cond-true _ _ _ (lt-ltb (k - count) few l) ∙ sym (ap (answer_of shut) (at_shown k h l)))
      (λ l. cond-false _ _ _ (le-ltb (k - count) few l) ∙ sym (ap (answer_of shut) (at_hidden k h l)))
      (cases_lt (k - count) few)

  -- a call that the annex took itself
  pub own_follows : (shut : Bool) (k : ℕ) → count ≤ k → annexed below (own_after shut few own (k - count)) ≡ state_after shut (annexed below own) k
  own_follows shut k h =
      ap (λ l. below ++ l) (taken (k - count) (own_answers shut k h ∙ ap (answer_of shut) (at_own k h)))
      ∙ ap (λ n. below ++ state_after shut part (k - n)) counted
      ∙ sym (after_back shut below part k (omega arith))
    where
      part : List Track
      part = take (2048 - length below) own

      either : (b : Bool) (j : ℕ) → take (2048 - length below) (cond b (put_state shut own j) own) ≡ cond b (take (2048 - length below) (put_state shut own j)) (take (2048 - length below) own)
      either true j = refl
      either false j = refl

      taken : (j : ℕ) → own_answer shut few own j ≡ state_answer shut (take (2048 - length below) own) j → take (2048 - length below) (own_after shut few own j) ≡ state_after shut (take (2048 - length below) own) j
      taken j same =
          let all = long in
          let cut = length-take (2048 - length below) own in
          ⊎_elim
          (λ l.
          either (is_ok (own_answer shut few own j)) j
          ∙ ap (λ r. cond (is_ok r) (take (2048 - length below) (put_state shut own j)) (take (2048 - length below) own)) same
          ∙ ap (λ x. cond (is_ok (state_answer shut (take (2048 - length below) own) j)) x (take (2048 - length below) own)) (take_set_any (2048 - length below) own j _ ∙ ap (λ t. set (take (2048 - length below) own) j (with_state shut t)) (sym (get_or-take (2048 - length below) own j no_track (omega arith)))))
          (λ l.
          ap (λ r. take (2048 - length below) (cond (is_ok r) (put_state shut own j) own)) (cond-false _ _ _ (le-ltb j few l))
          ∙ sym (ap (λ o. cond (is_ok (answer_of shut o)) (put_state shut (take (2048 - length below) own) j) (take (2048 - length below) own)) (at_past (take (2048 - length below) own) j (omega arith))))
          (cases_lt j few)

  pub limits_annexed : Limits below → Points own → Limits (annexed below own)
  limits_annexed b p =
      let all = length_annexed in
      let most = b.few in
      record {
        few = omega arith;
        points = λ k h.
            let cut = length-take (2048 - length below) own in
            let rest = long in
            ⊎_elim
            (λ l. subst Within (sym (get_or_append_left below _ no_track k l)) (b.points k l))
            (λ l.
            subst Within
            (sym (get_or-append_right below (take (2048 - length below) own) (length below) k no_track refl l ∙ get_or-take (2048 - length below) own (k - length below) no_track (omega arith)))
            (p (k - length below) (omega arith)))
            (cases_lt k (length below));
      }
