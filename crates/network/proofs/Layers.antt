-- How the spec's functions go through a list that is joined from two, or mapped: what a layer needs of the tracks below. Assumes nothing.
use Rattle.std.proofs.Common.{◌≡◌, ℕ, ◌-◌, ◌<◌, ◌≤◌, Bool, true, false, cond, List, ◌++◌, map, length, get_or, set, is_some, is_ok, Some, None, Option, sym, refl, ap, ◌∙◌, ⊎_elim, arith}
use Rattle.std.specs.Option.{option_map}
use Rattle.std.proofs.lemmas.List.{length-append, length-map, length-set, get_or_append_left, get_or-append_right, get_or-map, set-append_left, set-append_right, set_past, map-set}
use Rattle.std.proofs.lemmas.Bool.{cases_lt, lt-ltb, le-ltb, cond-true, cond-false}
use Rattle.network.specs.Tracks.{no_track, track_at, answer_of, with_state, put_state, state_answer, state_after, change_answer}
use Rattle.network.specs.declared.track.Track.{Track}

pub at_within : (ts : List Track) (k : ℕ) → k < length ts → track_at ts k ≡ Some (get_or ts k no_track)
at_within ts k h = cond-true _ _ _ (lt-ltb k (length ts) h)

pub at_past : (ts : List Track) (k : ℕ) → length ts ≤ k → track_at ts k ≡ None
at_past ts k h = cond-false _ _ _ (le-ltb k (length ts) h)

-- a track that is found has a number below the count
pub at_some : (ts : List Track) (k : ℕ) → is_some (track_at ts k) ≡ true → k < length ts
at_some ts k e =
    ⊎_elim
    (λ l. l)
    (λ l. let no : false ≡ true = sym (ap is_some (at_past ts k l)) ∙ e in let z : ◌≡◌ {A = ℕ} 0 1 = cc in absurd (omega arith))
    (cases_lt k (length ts))

-- a list that is joined from two

pub at_front : (xs ys : List Track) (k : ℕ) → k < length xs → track_at (xs ++ ys) k ≡ track_at xs k
at_front xs ys k h =
    let long = length-append xs ys in
    at_within (xs ++ ys) k (omega arith) ∙ ap Some (get_or_append_left xs ys no_track k h) ∙ sym (at_within xs k h)

pub at_back : (xs ys : List Track) (k : ℕ) → length xs ≤ k → track_at (xs ++ ys) k ≡ track_at ys (k - length xs)
at_back xs ys k h =
    let long = length-append xs ys in
    ⊎_elim
    (λ l. at_within (xs ++ ys) k (omega arith) ∙ ap Some (get_or-append_right xs ys (length xs) k no_track refl h) ∙ sym (at_within ys (k - length xs) l))
    (λ l. at_past (xs ++ ys) k (omega arith) ∙ sym (at_past ys (k - length xs) l))
    (cases_lt (k - length xs) (length ys))

pub after_front : (shut : Bool) (xs ys : List Track) (k : ℕ) → k < length xs → state_after shut (xs ++ ys) k ≡ state_after shut xs k ++ ys
after_front shut xs ys k h =
    let put : put_state shut (xs ++ ys) k ≡ put_state shut xs k ++ ys = ap (λ t. set (xs ++ ys) k (with_state shut t)) (get_or_append_left xs ys no_track k h) ∙ set-append_left xs ys k _ h in
    ap (λ o. cond (is_ok (answer_of shut o)) (put_state shut (xs ++ ys) k) (xs ++ ys)) (at_front xs ys k h)
    ∙ ap (λ l. cond (is_ok (state_answer shut xs k)) l (xs ++ ys)) put
    ∙ cond_append (is_ok (state_answer shut xs k)) (put_state shut xs k) xs
  where
    cond_append : (b : Bool) (us vs : List Track) → cond b (us ++ ys) (vs ++ ys) ≡ cond b us vs ++ ys
    cond_append true us vs = refl
    cond_append false us vs = refl

pub after_back : (shut : Bool) (xs ys : List Track) (k : ℕ) → length xs ≤ k → state_after shut (xs ++ ys) k ≡ xs ++ state_after shut ys (k - length xs)
after_back shut xs ys k h =
    let put : put_state shut (xs ++ ys) k ≡ xs ++ put_state shut ys (k - length xs) = ap (λ t. set (xs ++ ys) k (with_state shut t)) (get_or-append_right xs ys (length xs) k no_track refl h) ∙ set-append_right xs ys (length xs) k _ refl h in
    ap (λ o. cond (is_ok (answer_of shut o)) (put_state shut (xs ++ ys) k) (xs ++ ys)) (at_back xs ys k h)
    ∙ ap (λ l. cond (is_ok (state_answer shut ys (k - length xs))) l (xs ++ ys)) put
    ∙ cond_append (is_ok (state_answer shut ys (k - length xs))) (put_state shut ys (k - length xs)) ys
  where
    cond_append : (b : Bool) (us vs : List Track) → cond b (xs ++ us) (xs ++ vs) ≡ xs ++ cond b us vs
    cond_append true us vs = refl
    cond_append false us vs = refl

-- a call changes no number of tracks

pub length_after : (shut : Bool) (ts : List Track) (k : ℕ) → length (state_after shut ts k) ≡ length ts
length_after shut ts k = either (is_ok (state_answer shut ts k))
  where
    either : (b : Bool) → length (cond b (put_state shut ts k) ts) ≡ length ts
    either true = length-set ts k _
    either false = refl

-- a list that is mapped by what leaves the state alone

module _ (f : Track → Track) (kept : (t : Track) → (f t).shut ≡ t.shut) where
  pub at_map : (ts : List Track) (k : ℕ) → track_at (map f ts) k ≡ option_map f (track_at ts k)
  at_map ts k =
      let long = length-map ts f in
      ⊎_elim
      (λ l. at_within (map f ts) k (omega arith) ∙ ap Some (get_or-map f ts k no_track no_track l) ∙ sym (ap (option_map f) (at_within ts k l)))
      (λ l. at_past (map f ts) k (omega arith) ∙ sym (ap (option_map f) (at_past ts k l)))
      (cases_lt k (length ts))

  pub answer_mapped : (shut : Bool) (o : Option Track) → answer_of shut (option_map f o) ≡ answer_of shut o
  answer_mapped shut None = refl
  answer_mapped shut (Some t) = ap (change_answer shut) (kept t)

  pub answer_map : (shut : Bool) (ts : List Track) (k : ℕ) → state_answer shut (map f ts) k ≡ state_answer shut ts k
  answer_map shut ts k = ap (answer_of shut) (at_map ts k) ∙ answer_mapped shut (track_at ts k)

module _ (f : Track → Track) (kept : (t : Track) → (f t).shut ≡ t.shut) (moves : (shut : Bool) (t : Track) → with_state shut (f t) ≡ f (with_state shut t)) where
  pub put_map : (shut : Bool) (ts : List Track) (k : ℕ) → put_state shut (map f ts) k ≡ map f (put_state shut ts k)
  put_map shut ts k =
      let long = length-map ts f in
      ⊎_elim
      (λ l.
      ap (λ t. set (map f ts) k (with_state shut t)) (get_or-map f ts k no_track no_track l)
      ∙ ap (set (map f ts) k) (moves shut (get_or ts k no_track))
      ∙ sym (map-set f ts k (with_state shut (get_or ts k no_track))))
      (λ l. set_past (map f ts) k _ (omega arith) ∙ sym (ap (map f) (set_past ts k _ l)))
      (cases_lt k (length ts))

  pub after_map : (shut : Bool) (ts : List Track) (k : ℕ) → state_after shut (map f ts) k ≡ map f (state_after shut ts k)
  after_map shut ts k =
      ap (λ r. cond (is_ok r) (put_state shut (map f ts) k) (map f ts)) (answer_map f kept shut ts k)
      ∙ ap (λ l. cond (is_ok (state_answer shut ts k)) l (map f ts)) (put_map shut ts k)
      ∙ either (is_ok (state_answer shut ts k))
    where
      either : (b : Bool) → cond b (map f (put_state shut ts k)) (map f ts) ≡ map f (cond b (put_state shut ts k) ts)
      either true = refl
      either false = refl
