-- The lines of a file, as a relation and as computed. Assumes nothing.
use Rattle.std.proofs.Common.{◌≡◌, ℕ, zero, suc, ◌≤◌, eqb, List, [], ◌∷◌, ◌++◌, length, take, drop, sym, refl, ap, ◌∙◌, subst, inl, inr, one-add, arith}
use Rattle.std.proofs.lemmas.List.{take_at, take_all, drop_all, take-append-drop, length-drop}
use Rattle.std.proofs.lemmas.Bool.{cases_lt, cases_Bool, eqb-false, ne_eqb}
use Rattle.layout.specs.Layout.{lines, past_line}
use Rattle.layout.specs.Grammar.{NoFeed, FirstLine, Lines}
use Rattle.layout.specs.Grammar as grammar
use Rattle.layout.proofs.Splits.{to, lines_past, past_is, drop_to}

to_feed : (l r : List ℕ) → NoFeed l → to 10 (l ++ (10 ∷ r)) ≡ length l
to_feed [] r h = refl
to_feed (b ∷ bs) r h = rw (ne_eqb b 10 h.0) (one-add (to 10 (bs ++ (10 ∷ r))) ∙ ap suc (to_feed bs r h.1))

to_none : (l : List ℕ) → NoFeed l → to 10 l ≡ length l
to_none [] h = refl
to_none (b ∷ bs) h = rw (ne_eqb b 10 h.0) (one-add (to 10 bs) ∙ ap suc (to_none bs h.1))

past_feed : (l r : List ℕ) → drop (suc (length l)) (l ++ (10 ∷ r)) ≡ r
past_feed [] r = refl
past_feed (b ∷ bs) r = past_feed bs r

no_feed : (l : List ℕ) → NoFeed (take (to 10 l) l)
no_feed [] = tt
no_feed (b ∷ bs) = elim (cases_Bool (eqb b 10)) [
  | inl e ↦ rw e tt
  | inr e ↦ let h : NoFeed (take (suc (to 10 bs)) (b ∷ bs)) = (eqb-false b 10 e, no_feed bs) in rw (e, one-add (to 10 bs)) h
]

-- what is taken up to a line feed is the first line
pub first_line : (bytes : List ℕ) → FirstLine bytes (take (to 10 bytes) bytes) (past_line bytes)
first_line bytes = elim (cases_lt (to 10 bytes) (length bytes)) [
  | inl k ↦ grammar.ended (no_feed bytes)
      (sym (take-append-drop (to 10 bytes) bytes) ∙ ap (λ y. take (to 10 bytes) bytes ++ y) (drop_to 10 bytes k ∙ ap (λ y. 10 ∷ y) (sym (past_is bytes))))
  | inr k ↦ grammar.last (no_feed bytes) (sym (take_all (to 10 bytes) bytes k)) (past_is bytes ∙ drop_all (suc (to 10 bytes)) bytes (omega arith))
]

-- and there is no other first line
pub first_line_is : (bytes line rest : List ℕ) → FirstLine bytes line rest → (take (to 10 bytes) bytes ≡ line) × (past_line bytes ≡ rest)
first_line_is bytes line rest (grammar.ended h e) =
    let n : to 10 bytes ≡ length line = ap (to 10) e ∙ to_feed line rest h in (
      ap (λ k. take k bytes) n ∙ ap (take (length line)) e ∙ take_at line (10 ∷ rest) (length line) refl,
      past_is bytes ∙ ap (λ k. drop (suc k) bytes) n ∙ ap (drop (suc (length line))) e ∙ past_feed line rest,
    )
first_line_is bytes line rest (grammar.last h e r) =
    let n : to 10 bytes ≡ length line = ap (to 10) e ∙ to_none line h in
    let same = ap length e in (
      take_all (to 10 bytes) bytes (omega arith) ∙ e,
      past_is bytes ∙ drop_all (suc (to 10 bytes)) bytes (omega arith) ∙ sym r,
    )

pub lines_forth : (bytes : List ℕ) (ls : List (List ℕ)) → Lines bytes ls → lines bytes ≡ ls
lines_forth bytes ls grammar.no_bytes = refl
lines_forth bytes ls (grammar.some_bytes all line rest ks h f others) =
    let p = first_line_is all line rest f in
    lines_past all h ∙ ap (λ x. x ∷ lines (past_line all)) p.0 ∙ ap (λ x. line ∷ lines x) p.1 ∙ ap (λ x. line ∷ x) (lines_forth rest ks others)

lines_from : (fuel : ℕ) (bytes : List ℕ) → length bytes ≤ fuel → Lines bytes (lines bytes)
lines_from fuel [] h = grammar.no_bytes
lines_from zero (b ∷ bs) h = absurd (omega arith)
lines_from (suc fuel) (b ∷ bs) h =
    let d = ap length (past_is (b ∷ bs)) ∙ length-drop (suc (to 10 (b ∷ bs))) (b ∷ bs) in
    let others = lines_from fuel (past_line (b ∷ bs)) (omega arith) in
    subst (Lines (b ∷ bs)) (sym (lines_past (b ∷ bs) (omega arith)))
    (grammar.some_bytes (b ∷ bs) (take (to 10 (b ∷ bs)) (b ∷ bs)) (past_line (b ∷ bs)) (lines (past_line (b ∷ bs))) (omega arith) (first_line (b ∷ bs)) others)

pub lines_back : (bytes : List ℕ) → Lines bytes (lines bytes)
lines_back bytes = lines_from (length bytes) bytes (omega arith)
