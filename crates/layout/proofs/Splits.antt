-- Where a list of bytes is parted: the steps of `split`, `lines` and `fields`. Assumes nothing.
use Rattle.std.proofs.Common.{◌≡◌, ℕ, suc, ◌+◌, ◌<◌, ◌≤◌, Bool, true, false, cond, not, eqb, ◌⊎◌, List, [], ◌∷◌, length, take, drop, Some, sym, refl, ap, ◌∙◌, subst, inl, inr, one-add, arith}
use Rattle.std.specs.List.{prefix_len}
use Rattle.std.proofs.lemmas.List.{take_all, drop_all, drop-drop, length-drop}
use Rattle.std.proofs.lemmas.Bool.{cases_lt, cases_Bool, eqb-true, cond-false}
use Rattle.layout.specs.Layout.{split, onto_first, unless_empty, lines, kept, fields, first_of, rest_of, past_line}

-- how many bytes stand before the first s
abbrev pub to : ℕ → List ℕ → ℕ
to s l = prefix_len (λ b. not (eqb b s)) l

-- how many spaces stand at the front
abbrev pub blanks : List ℕ → ℕ
blanks l = prefix_len (λ b. eqb b 32) l

abbrev pub Consed : List (List ℕ) → Type 0
Consed ps = (w : List ℕ) × (ws : List (List ℕ)) × (ps ≡ w ∷ ws)

consed_onto : (b : ℕ) (ps : List (List ℕ)) → Consed (onto_first b ps)
consed_onto b [] = (b ∷ [], [], refl)
consed_onto b (w ∷ ws) = (b ∷ w, ws, refl)

-- there is always a piece
pub split_cons : (s : ℕ) (l : List ℕ) → Consed (split s l)
split_cons s [] = ([], [], refl)
split_cons s (b ∷ bs) =
    elim (eqb b s) as (λ t. Consed (cond t ([] ∷ split s bs) (onto_first b (split s bs))))
    [ true ↦ ([], split s bs, refl) | false ↦ consed_onto b (split s bs) ]

found_at : (s b : ℕ) (bs : List ℕ) (t : Bool)
    → (to s bs < length bs → split s bs ≡ take (to s bs) bs ∷ split s (drop (suc (to s bs)) bs))
    → cond (not t) (1 + to s bs) 0 < length (b ∷ bs)
    → cond t ([] ∷ split s bs) (onto_first b (split s bs))
    ≡ take (cond (not t) (1 + to s bs) 0) (b ∷ bs) ∷ split s (drop (suc (cond (not t) (1 + to s bs) 0)) (b ∷ bs))
found_at s b bs true ih h = refl
found_at s b bs false ih h =
    let k : to s bs < length bs = omega arith in
    ap (onto_first b) (ih k) ∙ simp one-add

-- where s is there, the first piece ends at it
pub split_found : (s : ℕ) (l : List ℕ) → to s l < length l → split s l ≡ take (to s l) l ∷ split s (drop (suc (to s l)) l)
split_found s [] h = absurd (omega arith)
split_found s (b ∷ bs) h = found_at s b bs (eqb b s) (split_found s bs) h

none_at : (s b : ℕ) (bs : List ℕ) (t : Bool)
    → (length bs ≤ to s bs → split s bs ≡ bs ∷ [])
    → length (b ∷ bs) ≤ cond (not t) (1 + to s bs) 0
    → cond t ([] ∷ split s bs) (onto_first b (split s bs)) ≡ (b ∷ bs) ∷ []
none_at s b bs true ih h = absurd (omega arith)
none_at s b bs false ih h =
    let k : length bs ≤ to s bs = omega arith in ap (onto_first b) (ih k)

-- where it is not, there is one piece
pub split_none : (s : ℕ) (l : List ℕ) → length l ≤ to s l → split s l ≡ l ∷ []
split_none s [] h = refl
split_none s (b ∷ bs) h = none_at s b bs (eqb b s) (split_none s bs) h

drop_at : (s b : ℕ) (bs : List ℕ) (t : Bool) → eqb b s ≡ t
    → (to s bs < length bs → drop (to s bs) bs ≡ s ∷ drop (suc (to s bs)) bs)
    → cond (not t) (1 + to s bs) 0 < length (b ∷ bs)
    → drop (cond (not t) (1 + to s bs) 0) (b ∷ bs) ≡ s ∷ drop (suc (cond (not t) (1 + to s bs) 0)) (b ∷ bs)
drop_at s b bs true e ih h = ap (λ x. x ∷ bs) (eqb-true b s e)
drop_at s b bs false e ih h =
    let k : to s bs < length bs = omega arith in simp one-add (ih k)

pub drop_to : (s : ℕ) (l : List ℕ) → to s l < length l → drop (to s l) l ≡ s ∷ drop (suc (to s l)) l
drop_to s [] h = absurd (omega arith)
drop_to s (b ∷ bs) h = drop_at s b bs (eqb b s) refl (drop_to s bs) h

unless_cons : (w : List ℕ) (s : ℕ) (l : List ℕ) → unless_empty (w ∷ split s l) ≡ w ∷ unless_empty (split s l)
unless_cons w s l = let p = split_cons s l in rw p.2

-- the first line of a file that is not empty, and the other lines
pub lines_step : (l : List ℕ) → 0 < length l → lines l ≡ take (to 10 l) l ∷ lines (drop (suc (to 10 l)) l)
lines_step [] h = absurd (omega arith)
lines_step (b ∷ bs) h = elim (cases_lt (to 10 (b ∷ bs)) (length (b ∷ bs))) [
  | inl k ↦ ap unless_empty (split_found 10 (b ∷ bs) k) ∙ unless_cons (take (to 10 (b ∷ bs)) (b ∷ bs)) 10 (drop (suc (to 10 (b ∷ bs))) (b ∷ bs))
  | inr k ↦
      let t = take_all (to 10 (b ∷ bs)) (b ∷ bs) k in
      let d = drop_all (suc (to 10 (b ∷ bs))) (b ∷ bs) (omega arith) in
      ap unless_empty (split_none 10 (b ∷ bs) k) ∙ sym (ap (λ w. w ∷ lines (drop (suc (to 10 (b ∷ bs))) (b ∷ bs))) t ∙ ap (λ x. (b ∷ bs) ∷ lines x) d)
]

kept_skip : (s : ℕ) (l : List ℕ) → kept ([] ∷ split s l) ≡ kept (split s l)
kept_skip s l = let p = split_cons s l in rw p.2

kept_word : (b : ℕ) (w : List ℕ) (s : ℕ) (l : List ℕ) → kept ((b ∷ w) ∷ split s l) ≡ (b ∷ w) ∷ kept (split s l)
kept_word b w s l = let p = split_cons s l in rw p.2

-- a space before a text parts it off
pub fields_space : (l : List ℕ) → fields (32 ∷ l) ≡ kept (split 32 l)
fields_space l = kept_skip 32 l

abbrev pub word : List ℕ → List ℕ
word l = take (to 32 l) l

abbrev pub past_word : List ℕ → List ℕ
past_word l = drop (to 32 l) l

-- a text that begins with a word
word_found : (b : ℕ) (bs : List ℕ) (w : List ℕ) → eqb b 32 ≡ false → word (b ∷ bs) ≡ b ∷ w → to 32 (b ∷ bs) < length (b ∷ bs)
    → kept (split 32 (b ∷ bs)) ≡ word (b ∷ bs) ∷ fields (past_word (b ∷ bs))
word_found b bs w e p h =
    ap kept (split_found 32 (b ∷ bs) h ∙ ap (λ v. v ∷ split 32 (drop (suc (to 32 (b ∷ bs))) (b ∷ bs))) p)
    ∙ kept_word b w 32 (drop (suc (to 32 (b ∷ bs))) (b ∷ bs))
    ∙ sym (ap (λ x. word (b ∷ bs) ∷ fields x) (drop_to 32 (b ∷ bs) h) ∙ ap (λ x. word (b ∷ bs) ∷ x) (fields_space (drop (suc (to 32 (b ∷ bs))) (b ∷ bs))) ∙ ap (λ v. v ∷ kept (split 32 (drop (suc (to 32 (b ∷ bs))) (b ∷ bs)))) p)

word_none : (b : ℕ) (bs : List ℕ) → length (b ∷ bs) ≤ to 32 (b ∷ bs)
    → kept (split 32 (b ∷ bs)) ≡ word (b ∷ bs) ∷ fields (past_word (b ∷ bs))
word_none b bs h =
    ap kept (split_none 32 (b ∷ bs) h)
    ∙ sym (ap (λ v. v ∷ fields (past_word (b ∷ bs))) (take_all (to 32 (b ∷ bs)) (b ∷ bs) h) ∙ ap (λ x. (b ∷ bs) ∷ fields x) (drop_all (to 32 (b ∷ bs)) (b ∷ bs) h))

word_begins : (b : ℕ) (bs : List ℕ) → eqb b 32 ≡ false → word (b ∷ bs) ≡ b ∷ take (to 32 bs) bs
word_begins b bs e = rw (e, one-add (to 32 bs))

pub word_step : (b : ℕ) (bs : List ℕ) → eqb b 32 ≡ false → kept (split 32 (b ∷ bs)) ≡ word (b ∷ bs) ∷ fields (past_word (b ∷ bs))
word_step b bs e = elim (cases_lt (to 32 (b ∷ bs)) (length (b ∷ bs))) [
  | inl h ↦ word_found b bs (take (to 32 bs) bs) e (word_begins b bs e) h
  | inr h ↦ word_none b bs h
]

abbrev pub Stepped : List ℕ → List (List ℕ) → ℕ → Type 0
Stepped l ps k = ps ≡ word (drop k l) ∷ fields (past_word (drop k l))

blank_step : (b : ℕ) (bs : List ℕ) → (0 < length bs → Stepped bs (fields bs) (blanks bs)) → Stepped (b ∷ bs) (kept ([] ∷ split 32 bs)) (1 + blanks bs)
blank_step b [] ih = refl
blank_step b (x ∷ xs) ih = rw (one-add (blanks (x ∷ xs))) (kept_skip 32 (x ∷ xs) ∙ ih (omega arith))

fields_at : (b : ℕ) (bs : List ℕ) (t : Bool) → eqb b 32 ≡ t → (0 < length bs → Stepped bs (fields bs) (blanks bs))
    → Stepped (b ∷ bs) (kept (cond t ([] ∷ split 32 bs) (onto_first b (split 32 bs)))) (cond t (1 + blanks bs) 0)
fields_at b bs true e ih = blank_step b bs ih
fields_at b bs false e ih = ap kept (sym (cond-false (eqb b 32) ([] ∷ split 32 bs) (onto_first b (split 32 bs)) e)) ∙ word_step b bs e

-- the first field of a text that is not empty, and the other fields
pub fields_step : (l : List ℕ) → 0 < length l → Stepped l (fields l) (blanks l)
fields_step [] h = absurd (omega arith)
fields_step (b ∷ bs) h = fields_at b bs (eqb b 32) refl (fields_step bs)

-- what is read of the fields of a text that is not empty: `text` is the text after its spaces
pub field_read : (l text : List ℕ) (n : ℕ) → 0 < length l → text ≡ drop (blanks l) l → n ≡ to 32 text
    → (Some (take n text) ≡ first_of (fields l)) × (fields (drop n text) ≡ rest_of (fields l))
field_read l text n h e k =
    let p = fields_step l h in
    rw (k, e) (sym (ap first_of p), sym (ap rest_of p))

pub past_is : (l : List ℕ) → past_line l ≡ drop (suc (to 10 l)) l
past_is [] = refl
past_is (b ∷ bs) = elim (cases_Bool (eqb b 10)) [ inl e ↦ rw e | inr e ↦ rw (e, one-add (to 10 bs)) (past_is bs) ]

-- the lines after the first
pub lines_past : (l : List ℕ) → 0 < length l → lines l ≡ take (to 10 l) l ∷ lines (past_line l)
lines_past l h = lines_step l h ∙ sym (ap (λ x. take (to 10 l) l ∷ lines x) (past_is l))

pub lines_rest : (l : List ℕ) → lines (past_line l) ≡ rest_of (lines l)
lines_rest [] = refl
lines_rest (b ∷ bs) = sym (ap rest_of (lines_past (b ∷ bs) (omega arith)))

step_over : (l : List ℕ) (at n step : ℕ) → n ≤ length (drop at l)
    → ((n < length (drop at l)) × (step ≡ n + 1)) ⊎ ((length (drop at l) ≤ n) × (step ≡ n)) → drop (at + step) l ≡ drop (suc n) (drop at l)
step_over l at n step h (inl k) =
    let e : step ≡ suc n = omega arith in ap (λ m. drop (at + m) l) e ∙ sym (drop-drop (suc n) at l)
step_over l at n step h (inr k) =
    let d = length-drop at l in
    drop_all (at + step) l (omega arith) ∙ sym (drop_all (suc n) (drop at l) (omega arith))

-- what is read of a file at a line's start: `rest` is the file from there on
pub line_read : (l rest : List ℕ) (at n step : ℕ) → at < length l → rest ≡ drop at l → n ≡ to 10 rest → n ≤ length rest
    → ((n < length rest) × (step ≡ n + 1)) ⊎ ((length rest ≤ n) × (step ≡ n))
    → (lines (drop at l) ≡ take n rest ∷ lines (past_line (drop at l))) × (drop (at + step) l ≡ past_line (drop at l))
line_read l rest at n step h e k le way =
    let d = length-drop at l in
    let p = lines_past (drop at l) (omega arith) in
    let m : n ≡ to 10 (drop at l) = k ∙ ap (to 10) e in
    let w = subst (λ r. ((n < length r) × (step ≡ n + 1)) ⊎ ((length r ≤ n) × (step ≡ n))) e way in
    let b = subst (λ r. n ≤ length r) e le in (
      p ∙ sym (ap (λ r. take n r ∷ lines (past_line (drop at l))) e ∙ ap (λ i. take i (drop at l) ∷ lines (past_line (drop at l))) m),
      step_over l at n step b w ∙ ap (λ i. drop (suc i) (drop at l)) m ∙ sym (past_is (drop at l)),
    )
