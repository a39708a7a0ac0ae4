-- One line, and one more line of those that are put. Assumes nothing.
use Rattle.std.proofs.Common.{◌≡◌, ℕ, ◌+◌, ◌*◌, ◌≤◌, List, [], ◌∷◌, ◌++◌, length, Some, None, Option, Bor, sym, refl, ap, ◌∙◌, subst, inl, inr, arith}
use Rattle.std.proofs.lemmas.List.{append_assoc, append-nil}
use Rattle.std.specs.declared.iter.Enumerate.{Enumerate}
use Rattle.std.specs.declared.iter.Zip.{Zip}
use Rattle.std.specs.declared.slice.Iter.{Iter}
use Rattle.std.proofs.iter.Yields.{fronts}
use Rattle.std.proofs.lemmas.Iterator.{zips}
use Rattle.std.proofs.lemmas.Slice.Zip.{Zip-more, either_empty_from_Zip}
use Rattle.std.specs.Iterator.Adapters.{enumerate_source, enumerate_count, enumerate_steps, zip_first, zip_second}
use Rattle.std.specs.Slice.Iter.{iter_rest}
use Rattle.network.specs.declared.track.Track.{Track}
use Rattle.sheet.specs.declared.mark.Mark.{Mark}
use Rattle.written.specs.Lines.{header, decimal, mark_word, lead_field, line, lines, sheet_text}
use Rattle.written.specs.declared.page.Page.{Page}
use Rattle.written.specs.Pages.{Puts}
use Rattle.written.proofs.Putting.{puts_then, puts_as}

-- the pieces of a line, one behind another
pub line_pieces : (k : ℕ) (t : Track) (m : Mark) → (decimal (k + 1) ++ (44 ∷ [])) ++ ((decimal (t.first + 1) ++ (44 ∷ [])) ++ ((decimal (t.second + 1) ++ (44 ∷ [])) ++ (mark_word m ++ ((44 ∷ []) ++ (lead_field m ++ (13 ∷ 10 ∷ [])))))) ≡ line k t m
unfolding line
line_pieces k t m = simp append_assoc

-- the tracks and the marks, each pair with its number
abbrev pub Pairs : Type 0
Pairs = Enumerate (Zip (Iter Track) (Iter Mark))

-- those that are left
abbrev pub tracks_left : Pairs → List Track
tracks_left it = iter_rest (zip_first (enumerate_source it))

abbrev pub marks_left : Pairs → List Mark
marks_left it = iter_rest (zip_second (enumerate_source it))

-- the front of a text is put, and the lines of the tracks and marks that are left are the rest of it
pub record Underway (text : List ℕ) (start page : Page) (it : Pairs) : Type 0 where
  pub front : List ℕ
  pub put : Puts start front page
  pub rest : front ++ lines (enumerate_count it) (tracks_left it) (marks_left it) ≡ text
  pub short : page.at ≤ 30 + 31 * enumerate_count it
  pub few : enumerate_count it + length (marks_left it) ≤ 2048

-- the header is put
pub underway_start : {start page : Page} {it : Pairs} (ts : List Track) (ms : List Mark) → Puts start header page → page.at ≤ 30 → length ms ≤ 2048 → enumerate_count it ≡ 0 → tracks_left it ≡ ts → marks_left it ≡ ms → Underway (sheet_text ts ms) start page it
unfolding sheet_text
underway_start {start} {page} {it} ts ms put short few none first second = record {
  front = header;
  put = put;
  rest = ap (λ k. header ++ lines k (tracks_left it) (marks_left it)) none ∙ ap (λ us. header ++ lines 0 us (marks_left it)) first ∙ ap (λ ns. header ++ lines 0 ts ns) second;
  short = omega arith;
  few = let long = ap length second in omega arith;
}

-- one line more
pub underway_more : {text : List ℕ} {start page next : Page} (s t : Pairs) (r : Option (ℕ × (Bor Track × Bor Mark))) (p : ℕ × (Bor Track × Bor Mark)) → r ≡ Some p → enumerate_steps (zips fronts fronts) s r t → Underway text start page s → Puts page (line p.0 p.1.0.now p.1.1.now) next → next.at ≤ page.at + 31 → Underway text start next t
underway_more {text} {start} {page} {next} s t r p e steps was put short =
    let goes = subst (λ o. enumerate_steps (zips fronts fronts) s o t) e steps in
    let pair = Zip-more (enumerate_source s) (enumerate_source t) (Some p.1) p.1 refl goes.0 in
    let track = p.1.0.now in
    let mark = p.1.1.now in
    let same : lines (enumerate_count s) (tracks_left s) (marks_left s) ≡ line p.0 track mark ++ lines (enumerate_count t) (tracks_left t) (marks_left t) =
    ap (λ us. lines (enumerate_count s) us (marks_left s)) pair.0
    ∙ ap (lines (enumerate_count s) (track ∷ tracks_left t)) pair.1
    ∙ ap (λ k. line k track mark ++ lines (enumerate_count s + 1) (tracks_left t) (marks_left t)) (sym goes.1)
    ∙ ap (λ k. line p.0 track mark ++ lines k (tracks_left t) (marks_left t)) (sym goes.2)
    in
    record {
      front = was.front ++ line p.0 track mark;
      put = puts_then was.put put;
      rest = append_assoc was.front (line p.0 track mark) (lines (enumerate_count t) (tracks_left t) (marks_left t)) ∙ sym (ap (λ x. was.front ++ x) same) ∙ was.rest;
      short = let near = was.short in let count = goes.2 in omega arith;
      few = let near = was.few in let count = goes.2 in let long = ap length pair.1 in omega arith;
    }

lines_none : (k : ℕ) (ts : List Track) → lines k ts [] ≡ []
lines_none k [] = refl
lines_none k (t ∷ ts) = refl

-- where one of the lists ends, all is put
pub underway_end : {text : List ℕ} {start page : Page} (s t : Pairs) (r : Option (ℕ × (Bor Track × Bor Mark))) → r ≡ None → enumerate_steps (zips fronts fronts) s r t → Underway text start page s → Puts start text page
underway_end {text} {start} {page} s t r e steps was =
    let goes = subst (λ o. enumerate_steps (zips fronts fronts) s o t) e steps in
    let none : lines (enumerate_count s) (tracks_left s) (marks_left s) ≡ [] = elim (either_empty_from_Zip (enumerate_source s) (enumerate_source t) None refl goes.0) [
      | inl past ↦ ap (λ us. lines (enumerate_count s) us (marks_left s)) past
      | inr past ↦ ap (lines (enumerate_count s) (tracks_left s)) past ∙ lines_none (enumerate_count s) (tracks_left s)
    ] in
    puts_as (sym (append-nil was.front) ∙ sym (ap (λ x. was.front ++ x) none) ∙ was.rest) was.put
