-- What a line that was read is of the bytes that are left, and that there are fewer lines after it. Assumes nothing.
use Rattle.std.proofs.Common.{◌≡◌, ℕ, ◌<◌, List, [], ◌∷◌, length, take, Some, Ok, sym, ap, ◌∙◌, subst, arith}
use Rattle.layout.specs.declared.line.Place.{Place}
use Rattle.layout.specs.Layout.{lines, fields, past_line}
use Rattle.layout.specs.Lines.{Content, comment, line_of}
use Rattle.layout.specs.Plans.{read_next}
use Rattle.layout.specs.Grammar.{FirstLine}
use Rattle.layout.proofs.Splits.{to, lines_past, lines_rest}
use Rattle.layout.proofs.FileLines.{first_line}
use Rattle.layout.proofs.LineKinds.{line_kinds, kind, problem_kind, edge_kind}
use Rattle.layout.proofs.Walks.{line_there, next_line_is}

-- a comment says the whole line
comment_is : (place : Place) (l line : List ℕ) → Ok (comment line) ≡ line_of place l → l ≡ line
comment_is place l line e =
    line_kinds (l ≡ line) place l (Ok (comment line)) e
    (λ rest m p q. cc)
    (λ rest m p q. absurd (omega (arith, ap kind q, problem_kind place (fields rest))))
    (λ rest m p q. absurd (omega (arith, ap kind q, edge_kind place (fields rest))))
    (λ q. absurd (omega (arith, ap kind q)))

pub comment_part : (bytes rest : List ℕ) (place : Place) (n : ℕ) (line : List ℕ) → Ok (Some (comment line)) ≡ read_next (lines bytes) place n → rest ≡ past_line bytes
    → FirstLine bytes line rest
comment_part [] rest place n line e u = absurd (omega (arith, (line_there [] place n (comment line) e).1))
comment_part (b ∷ bs) rest place n line e u =
    let l : List ℕ = take (to 10 (b ∷ bs)) (b ∷ bs) in
    let q = e ∙ ap (λ ls. read_next ls place n) (lines_past (b ∷ bs) (omega arith)) in
    let same = comment_is place l line (next_line_is (comment line) n (line_of place l) q) in
    subst (λ x. FirstLine (b ∷ bs) x rest) same (subst (FirstLine (b ∷ bs) l) (sym u) (first_line (b ∷ bs)))

pub fewer_left : (bytes rest : List ℕ) (place : Place) (n : ℕ) (s : Content) → Ok (Some s) ≡ read_next (lines bytes) place n → rest ≡ past_line bytes
    → length (lines rest) < length (lines bytes)
fewer_left bytes rest place n s e u =
    let same = ap (λ l. length (lines l)) u ∙ ap length (lines_rest bytes) in omega (arith, (line_there (lines bytes) place n s e).1)
