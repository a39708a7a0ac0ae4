-- A written sheet reads back. Assumes nothing.
use Rattle.std.proofs.Common.{◌≡◌, ℕ, ◌+◌, ◌-◌, ◌<◌, ◌≤◌, Bool, true, false, List, [], ◌∷◌, ◌++◌, map, length, get_or, take, drop, Some, Option, sym, refl, ap, ◌∙◌, arith, rules}
use Rattle.std.specs.Int.Digits.{digits_of, number_from_digits, AllBelowBase}
use Rattle.std.specs.List.{AllByRecursion as All}
use Rattle.std.proofs.lemmas.Int.Digits.{number_digits_of, all_below_base_digits_of, first_digits_of}
use Rattle.std.proofs.lemmas.List.{append_assoc, append-nil, take_at}
use Rattle.std.proofs.lemmas.Bool.{cond-true, cond-false}
use Rattle.std.proofs.lemmas.Bool.Decides.{nat_tests}
use Rattle.network.specs.declared.track.Track.{Track}
use Rattle.sheet.specs.declared.mark.Mark.{Mark}
use Rattle.sheet.specs.declared.mark.Mark.TheVariants.{Shut, Single, Mates, Alone}
use Rattle.written.specs.Lines.{decimal, mark_word, lead_field, line, lines, sheet_text}
use Rattle.written.specs.Places.{Put}
use Rattle.written.specs.Reading.{Row, parts, ends_line, ends_field, number_in, mark_in, row_in, read_back, unsized, told, NoLeadingZero, ReadsBack}
use Rattle.written.proofs.Putting.{front_put}

-- no byte of a list passes the test
abbrev Free : (ℕ → Bool) → List ℕ → Type 0
Free ends xs = All (λ x. ends x ≡ false) xs

free_append : (ends : ℕ → Bool) (xs ys : List ℕ) → Free ends xs → Free ends ys → Free ends (xs ++ ys)
free_append ends [] ys f g = g
free_append ends (x ∷ xs) ys f g = (f.0, free_append ends xs ys f.1 g)

-- a part that no ending byte stands in
one_part : (ends : ℕ → Bool) (part xs : List ℕ) (x : ℕ) (rest : List ℕ) → Free ends xs → ends x ≡ true → parts ends part (xs ++ (x ∷ rest)) ≡ (part ++ xs) ∷ parts ends [] rest
one_part ends part [] x rest f e = cond-true (ends x) _ _ e ∙ ap (λ p. p ∷ parts ends [] rest) (sym (append-nil part))
one_part ends part (y ∷ xs) x rest f e =
    cond-false (ends y) _ _ f.0
    ∙ one_part ends (part ++ (y ∷ [])) xs x rest f.1 e
    ∙ ap (λ p. p ∷ parts ends [] rest) (append_assoc part (y ∷ []) xs)

-- what holds of every digit holds of every byte of a number
digits_hold : (ends : ℕ → Bool) → ((d : ℕ) → d < 10 → ends (48 + d) ≡ false) → (ds : List ℕ) → AllBelowBase 10 ds → Free ends (map (λ d. 48 + d) ds)
digits_hold ends h [] u = tt
digits_hold ends h (d ∷ ds) u = (h d u.0, digits_hold ends h ds u.1)

decimal_free : (ends : ℕ → Bool) → ((d : ℕ) → d < 10 → ends (48 + d) ≡ false) → (n : ℕ) → Free ends (decimal n)
unfolding decimal
decimal_free ends h n = digits_hold ends h (digits_of 10 n) (all_below_base_digits_of 10 n (omega arith))

-- the digits say the number
digits_back : (ds : List ℕ) → map (λ c. c - 48) (map (λ d. 48 + d) ds) ≡ ds
digits_back [] = refl
digits_back (d ∷ ds) = let same : (48 + d) - 48 ≡ d = omega arith in ap (λ x. x ∷ map (λ c. c - 48) (map (λ e. 48 + e) ds)) same ∙ ap (λ xs. d ∷ xs) (digits_back ds)

number_back : (n : ℕ) → number_in (decimal (n + 1)) ≡ n
unfolding decimal
number_back n =
    let same : (n + 1) - 1 ≡ n = omega arith in
    ap (λ ds. number_from_digits 10 ds - 1) (digits_back (digits_of 10 (n + 1)))
    ∙ ap (λ x. x - 1) (number_digits_of 10 (n + 1) (omega arith))
    ∙ same

-- no line feed, comma or CR stands in a field
digit_in_line : (d : ℕ) → d < 10 → ends_line (48 + d) ≡ false
digit_in_line d h = grind (arith, nat_tests)

digit_in_field : (d : ℕ) → d < 10 → ends_field (48 + d) ≡ false
digit_in_field d h = grind (arith, nat_tests)

in_line : (n : ℕ) → Free ends_line (decimal n)
in_line n = decimal_free ends_line digit_in_line n

in_field : (n : ℕ) → Free ends_field (decimal n)
in_field n = decimal_free ends_field digit_in_field n

word_in_line : (m : Mark) → Free ends_line (mark_word m)
word_in_line Shut = search rules
word_in_line Single = search rules
word_in_line (Mates lead size) = search rules
word_in_line Alone = search rules

word_in_field : (m : Mark) → Free ends_field (mark_word m)
word_in_field Shut = search rules
word_in_field Single = search rules
word_in_field (Mates lead size) = search rules
word_in_field Alone = search rules

lead_free : (ends : ℕ → Bool) → ((d : ℕ) → d < 10 → ends (48 + d) ≡ false) → (m : Mark) → Free ends (lead_field m)
lead_free ends h Shut = tt
lead_free ends h Single = tt
lead_free ends h (Mates lead size) = decimal_free ends h (lead + 1)
lead_free ends h Alone = tt

mark_back : (m : Mark) → mark_in (mark_word m) (lead_field m) ≡ Some (unsized m)
mark_back Shut = refl
mark_back Single = refl
mark_back (Mates lead size) = ap (λ n. Some (Mates n 0)) (number_back lead)
mark_back Alone = refl

abbrev row : ℕ → ℕ → ℕ → Option Mark → Row
row k a b m = record { track = k; first = a; second = b; mark = m }

module _ (k : ℕ) (t : Track) (m : Mark) where
  -- a line up to its line feed
  abbrev body : List ℕ
  body = decimal (k + 1) ++ (44 ∷ (decimal (t.first + 1) ++ (44 ∷ (decimal (t.second + 1) ++ (44 ∷ (mark_word m ++ (44 ∷ (lead_field m ++ (13 ∷ [])))))))))

  line_body : (rest : List ℕ) → line k t m ++ rest ≡ body ++ (10 ∷ rest)
  unfolding line
  line_body rest = simp append_assoc

  body_free : Free ends_line body
  body_free =
      free_append ends_line (decimal (k + 1)) _ (in_line (k + 1)) (
        refl,
        free_append ends_line (decimal (t.first + 1)) _ (in_line (t.first + 1)) (
          refl,
          free_append ends_line (decimal (t.second + 1)) _ (in_line (t.second + 1)) (
            refl,
            free_append ends_line (mark_word m) _ (word_in_line m) (
              refl,
              free_append ends_line (lead_field m) _ (lead_free ends_line digit_in_line m) search rules,
            ),
          ),
        ),
      )

  field : (xs : List ℕ) (x : ℕ) (rest : List ℕ) → Free ends_field xs → ends_field x ≡ true → parts ends_field [] (xs ++ (x ∷ rest)) ≡ xs ∷ parts ends_field [] rest
  field xs x rest f e = one_part ends_field [] xs x rest f e

  fields_back : parts ends_field [] body ≡ decimal (k + 1) ∷ decimal (t.first + 1) ∷ decimal (t.second + 1) ∷ mark_word m ∷ lead_field m ∷ []
  fields_back =
      field (decimal (k + 1)) 44 _ (in_field (k + 1)) refl
      ∙ ap (λ fs. decimal (k + 1) ∷ fs)
      (field (decimal (t.first + 1)) 44 _ (in_field (t.first + 1)) refl
      ∙ ap (λ fs. decimal (t.first + 1) ∷ fs)
      (field (decimal (t.second + 1)) 44 _ (in_field (t.second + 1)) refl
      ∙ ap (λ fs. decimal (t.second + 1) ∷ fs)
      (field (mark_word m) 44 _ (word_in_field m) refl
      ∙ ap (λ fs. mark_word m ∷ fs) (field (lead_field m) 13 [] (lead_free ends_field digit_in_field m) refl))))

  row_back : row_in (parts ends_field [] body) ≡ row k t.first t.second (Some (unsized m))
  row_back =
      ap row_in fields_back
      ∙ ap (λ n. row n (number_in (decimal (t.first + 1))) (number_in (decimal (t.second + 1))) (mark_in (mark_word m) (lead_field m))) (number_back k)
      ∙ ap (λ n. row k n (number_in (decimal (t.second + 1))) (mark_in (mark_word m) (lead_field m))) (number_back t.first)
      ∙ ap (λ n. row k t.first n (mark_in (mark_word m) (lead_field m))) (number_back t.second)
      ∙ ap (row k t.first t.second) (mark_back m)

lines_back : (k : ℕ) (ts : List Track) (ms : List Mark) → map (λ l. row_in (parts ends_field [] l)) (parts ends_line [] (lines k ts ms)) ≡ told k ts ms
lines_back k [] ms = refl
lines_back k (t ∷ ts) [] = refl
lines_back k (t ∷ ts) (m ∷ ms) =
    ap (λ x. map (λ l. row_in (parts ends_field [] l)) (parts ends_line [] x)) (line_body k t m (lines (k + 1) ts ms))
    ∙ ap (map (λ l. row_in (parts ends_field [] l))) (one_part ends_line [] (body k t m) 10 (lines (k + 1) ts ms) (body_free k t m) refl)
    ∙ ap (λ r. r ∷ map (λ l. row_in (parts ends_field [] l)) (parts ends_line [] (lines (k + 1) ts ms))) (row_back k t m)
    ∙ ap (λ rs. row k t.first t.second (Some (unsized m)) ∷ rs) (lines_back (k + 1) ts ms)

pub reads_back : ReadsBack
unfolding sheet_text
reads_back ts ms = lines_back 0 ts ms

-- the front of the bytes, where the text was put there and fits
pub read_front : (ts : List Track) (ms : List Mark) {bytes after : List ℕ} {n : ℕ} → Put bytes 0 (sheet_text ts ms) after n → length (sheet_text ts ms) ≤ length bytes → read_back (take n after) ≡ told 0 ts ms
read_front ts ms {bytes} {after} {n} put fits =
    let text = sheet_text ts ms in
    let long : length text ≡ n = let e = put.behind in omega arith in
    ap read_back (ap (take n) (front_put put fits) ∙ take_at text (drop (length text) bytes) n long) ∙ reads_back ts ms

first_above : (ds : List ℕ) → 0 < get_or ds 0 0 → 48 < get_or (map (λ d. 48 + d) ds) 0 0
first_above [] h = absurd (omega arith)
first_above (d ∷ ds) h = omega arith

pub no_leading_zero : NoLeadingZero
unfolding decimal
no_leading_zero n =
    let some = first_digits_of 10 (n + 1) (omega arith) (omega arith) in
    first_above (digits_of 10 (n + 1)) some
