-- The fields of a text that is written as gaps and words, and back. Assumes nothing.
use Rattle.std.proofs.Common.{◌≡◌, ℕ, zero, suc, ◌+◌, ◌*◌, ◌<◌, true, false, ◌&&◌, eqb, leb, List, [], ◌∷◌, ◌++◌, length, take, drop, replicate, Ok, Err, Result, sym, refl, ap, ◌∙◌, inl, inr, one-add, arith}
use Rattle.std.proofs.lemmas.List.{take_at, drop_at, take-append-drop, drop_all, append-nil}
use Rattle.std.proofs.lemmas.Bool.{cases_lt, cases_Bool, eqb-true, cond-true, cond-false, and_parts, leb-true}
use Rattle.std.proofs.lemmas.Bool.Decides.{nat_tests}
use Rattle.layout.specs.declared.faults.NumberFault.{NumberFault}
use Rattle.layout.specs.declared.faults.NumberFault.TheVariants.{Wrong}
use Rattle.layout.specs.Layout.{fields, decimal, digits_after, digit_of, with_digit}
use Rattle.layout.specs.Lines.{parted}
use Rattle.layout.specs.Grammar.{gap}
use Rattle.layout.proofs.Splits.{to, blanks, fields_step, fields_space, word_step, drop_to}
use Rattle.layout.proofs.Decimals.{after_err}

abbrev pub NoSpace : List ℕ → Type 0
NoSpace [] = Unit {0}
NoSpace (b ∷ bs) = (eqb b 32 ≡ false) × NoSpace bs

to_end : (r : List ℕ) → parted r ≡ true → to 32 r ≡ 0
to_end [] p = refl
to_end (b ∷ bs) p = rw p

to_word : (v r : List ℕ) → NoSpace v → parted r ≡ true → to 32 (v ++ r) ≡ length v
to_word [] r h p = to_end r p
to_word (b ∷ bs) r h p = rw h.0 (one-add (to 32 (bs ++ r)) ∙ ap suc (to_word bs r h.1 p))

fields_word : (v r : List ℕ) → NoSpace v → 0 < length v → parted r ≡ true → fields (v ++ r) ≡ v ∷ fields r
fields_word [] r h l p = absurd (omega arith)
fields_word (b ∷ bs) r h l p =
    let n : to 32 (b ∷ bs ++ r) ≡ length (b ∷ bs) = to_word (b ∷ bs) r h p in
    word_step b (bs ++ r) h.0
    ∙ ap (λ k. take k (b ∷ bs ++ r) ∷ fields (drop k (b ∷ bs ++ r))) n
    ∙ ap (λ x. x ∷ fields (drop (length (b ∷ bs)) (b ∷ bs ++ r))) (take_at (b ∷ bs) r (length (b ∷ bs)) refl)
    ∙ ap (λ x. (b ∷ bs) ∷ fields x) (drop_at (b ∷ bs) r (length (b ∷ bs)) refl)

fields_skip : (x : List ℕ) → 0 < length x → fields (32 ∷ x) ≡ fields x
fields_skip [] h = absurd (omega arith)
fields_skip (b ∷ bs) h = fields_space (b ∷ bs)

fields_gap : (k : ℕ) (x : List ℕ) → 0 < length x → fields (gap k ++ x) ≡ fields x
fields_gap zero x h = fields_skip x h
fields_gap (suc k) x h = fields_space (gap k ++ x) ∙ fields_gap k x h

longer : (v r : List ℕ) → 0 < length v → 0 < length (v ++ r)
longer [] r h = absurd (omega arith)
longer (b ∷ bs) r h = omega arith

-- a gap and a word are a field
pub field_first : (k : ℕ) (v r : List ℕ) → NoSpace v → 0 < length v → parted r ≡ true → fields (gap k ++ (v ++ r)) ≡ v ∷ fields r
field_first k v r h l p = fields_gap k (v ++ r) (longer v r l) ∙ fields_word v r h l p

pub field_last : (k : ℕ) (v : List ℕ) → NoSpace v → 0 < length v → fields (gap k ++ v) ≡ v ∷ []
field_last k v h l = ap (λ x. fields (gap k ++ x)) (sym (append-nil v)) ∙ field_first k v [] h l refl

blanks_take : (l : List ℕ) → take (blanks l) l ≡ replicate (blanks l) 32
blanks_take [] = refl
blanks_take (b ∷ bs) = elim (cases_Bool (eqb b 32)) [
  | inl e ↦ rw (e, one-add (blanks bs)) (ap (λ x. x ∷ take (blanks bs) bs) (eqb-true b 32 e) ∙ ap (λ x. 32 ∷ x) (blanks_take bs))
  | inr e ↦ rw e
]

blanks_more : (b : ℕ) (bs : List ℕ) → eqb b 32 ≡ true → blanks (b ∷ bs) ≡ suc (blanks bs)
blanks_more b bs e = rw (e, one-add (blanks bs))

past_parted : (x : List ℕ) → parted (drop (to 32 x) x) ≡ true
past_parted x = elim (cases_lt (to 32 x) (length x)) [
  | inl h ↦ ap parted (drop_to 32 x h)
  | inr h ↦ ap parted (drop_all (to 32 x) x h)
]

pub record Fielded (l v : List ℕ) (fs : List (List ℕ)) : Type 0 where
  pub k : ℕ
  pub r : List ℕ
  pub written : l ≡ gap k ++ (v ++ r)
  pub others : fields r ≡ fs
  pub apart : parted r ≡ true

-- a field is a gap and a word
pub field_back : (l v : List ℕ) (fs : List (List ℕ)) → parted l ≡ true → fields l ≡ v ∷ fs → Fielded l v fs
field_back [] v fs p e = let z : ◌≡◌ {A = ℕ} 0 1 = cc in absurd (omega arith)
field_back (b ∷ bs) v fs p e =
    let x : List ℕ = drop (blanks (b ∷ bs)) (b ∷ bs) in
    let s : v ∷ fs ≡ take (to 32 x) x ∷ fields (drop (to 32 x) x) = sym e ∙ fields_step (b ∷ bs) (omega arith) in
    let w : v ≡ take (to 32 x) x = cc in
    let o : fs ≡ fields (drop (to 32 x) x) = cc in
    let split : take (to 32 x) x ++ drop (to 32 x) x ≡ x = take-append-drop (to 32 x) x in
    let front : take (blanks (b ∷ bs)) (b ∷ bs) ≡ gap (blanks bs) = blanks_take (b ∷ bs) ∙ ap (λ n. replicate n 32) (blanks_more b bs p) in
    record {
      k = blanks bs;
      r = drop (to 32 x) x;
      written = sym (ap (λ f. f ++ (v ++ drop (to 32 x) x)) (sym front) ∙ ap (λ y. take (blanks (b ∷ bs)) (b ∷ bs) ++ (y ++ drop (to 32 x) x)) w
          ∙ ap (λ y. take (blanks (b ∷ bs)) (b ∷ bs) ++ y) split ∙ take-append-drop (blanks (b ∷ bs)) (b ∷ bs));
      others = sym o;
      apart = past_parted x;
    }

-- no field is left only of an empty text
pub fields_none : (l : List ℕ) → fields l ≡ [] → l ≡ []
fields_none [] e = refl
fields_none (b ∷ bs) e =
    let s = sym e ∙ fields_step (b ∷ bs) (omega arith) in cc

digit_no_space : (b d : ℕ) → digit_of b ≡ Ok d → eqb b 32 ≡ false
digit_no_space b d e = grind (arith, nat_tests)

digit_at : (b : ℕ) (bs : List ℕ) (m n : ℕ) (r : Result ℕ NumberFault) → ((k : ℕ) → Ok n ≡ digits_after (Ok k) bs → NoSpace bs)
    → digit_of b ≡ r → Ok n ≡ digits_after (with_digit r m) bs → (eqb b 32 ≡ false) × NoSpace bs
digit_at b bs m n (Ok d) others p e = (digit_no_space b d p, others (m * 10 + d) e)
digit_at b bs m n (Err x) others p e = let q = e ∙ after_err x bs in let z : ◌≡◌ {A = ℕ} 0 1 = cc in absurd (omega arith)

digits_no_space : (v : List ℕ) (n m : ℕ) → Ok n ≡ digits_after (Ok m) v → NoSpace v
digits_no_space [] n m e = tt
digits_no_space (b ∷ bs) n m e = digit_at b bs m n (digit_of b) (digits_no_space bs n) refl e

-- a number is a word
pub decimal_word : (v : List ℕ) (n : ℕ) → Ok n ≡ decimal v → NoSpace v × (0 < length v)
decimal_word v n e = elim (cases_Bool (leb 1 (length v) && leb (length v) 4)) [
  | inl t ↦
      let q = e ∙ cond-true (leb 1 (length v) && leb (length v) 4) (digits_after (Ok 0) v) (Err Wrong) t in
      (digits_no_space v n 0 q, leb-true 1 (length v) (and_parts (leb 1 (length v)) (leb (length v) 4) t).0)
  | inr f ↦
      let q = e ∙ cond-false (leb 1 (length v) && leb (length v) 4) (digits_after (Ok 0) v) (Err Wrong) f in
      let z : ◌≡◌ {A = ℕ} 0 1 = cc in absurd (omega arith)
]
