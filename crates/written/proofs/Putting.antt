-- Texts put one behind another are one text, and a text at the front that fits. Assumes nothing.
use Rattle.std.proofs.Common.{◌≡◌, ℕ, suc, ◌+◌, ◌≤◌, List, [], ◌∷◌, ◌++◌, length, drop, set, sym, refl, ap, ◌∙◌, subst, arith}
use Rattle.std.proofs.lemmas.List.{append_assoc, length-append, length_push, set_at, set_past}
use Rattle.std.proofs.lemmas.Bool.{cond_above}
use Rattle.written.specs.declared.page.Page.{Page}
use Rattle.written.specs.Pages.{Puts}
use Rattle.written.specs.Places.{over, Put, bytes_after}

over_append : (bs : List ℕ) (at : ℕ) (p q : List ℕ) → over bs at (p ++ q) ≡ over (over bs at p) (at + length p) q
over_append bs at [] q = let same : at ≡ at + 0 = omega arith in ap (λ n. over bs n q) same
over_append bs at (x ∷ p) q =
    let same : suc at + length p ≡ at + suc (length p) = omega arith in
    over_append (set bs at x) (suc at) p q ∙ ap (λ n. over (over (set bs at x) (suc at) p) n q) same

-- nothing put
pub puts_none : (p : Page) → Puts p [] p
puts_none p = record { put = record { behind = omega arith; held = refl }; same_bytes = refl }

-- one text and then another
pub puts_then : {p q r : Page} {first second : List ℕ} → Puts p first q → Puts q second r → Puts p (first ++ second) r
puts_then {p} {q} {r} {first} {second} one more =
    let a = one.put.behind in
    let b = more.put.behind in
    let long = length-append first second in
    record {
      put = record {
        behind = omega arith;
        held =
            more.put.held
            ∙ ap (λ m. over m q.at second) one.put.held
            ∙ ap (λ n. over (over p.bytes.now p.at first) n second) a
            ∙ sym (over_append p.bytes.now p.at first second);
      };
      same_bytes = more.same_bytes ∙ one.same_bytes;
    }

-- the same text under another name
pub puts_as : {p q : Page} {text other : List ℕ} → text ≡ other → Puts p text q → Puts p other q
puts_as {p} {q} e puts = subst (λ t. Puts p t q) e puts

-- one byte, where the bytes reach so far and where they do not
pub puts_here : (p q : Page) (x : ℕ) → q.at ≡ p.at → q.bytes.now ≡ set p.bytes.now p.at x → q.bytes.ghost_name ≡ p.bytes.ghost_name → Puts p (x ∷ []) (record { bytes = q.bytes; at = q.at + 1 })
puts_here p q x at held name = record { put = record { behind = omega arith; held = held }; same_bytes = name }

pub puts_past : (p q : Page) (x : ℕ) → q ≡ p → length p.bytes.now ≤ p.at → Puts p (x ∷ []) (record { bytes = q.bytes; at = q.at + 1 })
puts_past p q x e past = puts_here p q x (ap (λ (r : Page). r.at) e) (ap (λ (r : Page). r.bytes.now) e ∙ sym (set_past p.bytes.now p.at x past)) (ap (λ (r : Page). r.bytes.ghost_name) e)

over_behind : (pre bs p : List ℕ) → length p ≤ length bs → over (pre ++ bs) (length pre) p ≡ pre ++ (p ++ drop (length p) bs)
over_behind pre bs [] h = refl
over_behind pre [] (x ∷ p) h = absurd (omega arith)
over_behind pre (b ∷ bs) (x ∷ p) h =
    let less : length p ≤ length bs = omega arith in
    let long : suc (length pre) ≡ length (pre ++ (x ∷ [])) = omega (arith, length_push pre x) in
    ap (λ m. over m (suc (length pre)) p) (set_at pre b bs x (length pre) refl ∙ sym (append_assoc pre (x ∷ []) bs))
    ∙ ap (λ n. over ((pre ++ (x ∷ [])) ++ bs) n p) long
    ∙ over_behind (pre ++ (x ∷ [])) bs p less
    ∙ append_assoc pre (x ∷ []) (p ++ drop (length p) bs)

-- a piece at the front that fits: the bytes beyond it stay
pub front_put : {bs p after : List ℕ} {next : ℕ} → Put bs 0 p after next → length p ≤ length bs → after ≡ p ++ drop (length p) bs
front_put {bs} {p} put h = put.held ∙ over_behind [] bs p h

-- the same piece under another name
pub put_as : {bs : List ℕ} {at : ℕ} {p q after : List ℕ} {next : ℕ} → p ≡ q → Put bs at p after next → Put bs at q after next
put_as {bs} {at} {p} {q} {after} {next} e put = subst (λ x. Put bs at x after next) e put

-- a text that was counted over no bytes, and was found no longer than these
pub counted_fits : {text after : List ℕ} {n : ℕ} (bs : List ℕ) → Put [] 0 text after n → n ≤ length bs → length text ≤ length bs
counted_fits bs counted short = let long = counted.behind in omega arith

-- the bytes after, where the text fits
pub after_fits : {bs text after : List ℕ} {next : ℕ} → Put bs 0 text after next → length text ≤ length bs → after ≡ bytes_after text bs
after_fits {bs} {text} {after} put h = cond_above (length bs) (length text) bs (text ++ drop (length text) bs) after h (front_put put h)
