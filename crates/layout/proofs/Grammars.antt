-- The reading of a file gives points and tracks if and only if the grammar makes the file a plan that has them. Assumes nothing.
use Rattle.std.proofs.Common.{◌≡◌, ℕ, ◌+◌, cond, eqb, List, [], ◌∷◌, ◌++◌, length, Ok, Err, Result, sym, refl, ap, ◌∙◌, subst, inl, inr, arith}
use Rattle.std.proofs.lemmas.Bool.{eqb-true, eq-eqb, cond-true}
use Rattle.network.specs.Tracks.{open_track}
use Rattle.network.specs.declared.track.Track.{Track}
use Rattle.layout.specs.declared.faults.LineFault.{LineFault}
use Rattle.layout.specs.declared.faults.LineFault.TheVariants.{OutOfPlace}
use Rattle.layout.specs.declared.faults.FileFault.{FileFault}
use Rattle.layout.specs.declared.line.Place.TheVariants.{Start, Within}
use Rattle.layout.specs.Faults.{placed}
use Rattle.layout.specs.Layout.{lines}
use Rattle.layout.specs.Lines.{Content, comment, problem, edge, line_of}
use Rattle.layout.specs.Plans.{Reading, onto, follow, walk, plan_of}
use Rattle.layout.specs.Grammar.{Body, Plan, Says}
use Rattle.layout.specs.Grammar as grammar
use Rattle.layout.proofs.FileLines.{lines_forth, lines_back}
use Rattle.layout.proofs.LineKinds.{cond_split, problem_is, edge_is}
use Rattle.layout.proofs.Written.{comment_written, comment_reads, problem_written, problem_reads, edge_written, edge_reads}

-- a reading is tracks and another reading
record Joined (points : ℕ) (ts us : List Track) (r : Reading) : Type 0 where
  vs : List Track
  rest : Ok (points, vs) ≡ r
  all : ts ≡ us ++ vs

onto_back : (points : ℕ) (ts us : List Track) (r : Reading) → Ok (points, ts) ≡ onto us r → Joined points ts us r
onto_back points ts us (Ok p) e =
    let h : ◌≡◌ {A = ℕ × List Track} (points, ts) (p.0, us ++ p.1) = cc in
    record { vs = p.1; rest = ap (λ x. Ok (x.0, p.1)) h; all = ap (λ x. x.1) h }
onto_back points ts us (Err f) e = let z : ◌≡◌ {A = ℕ} 0 1 = cc in absurd (omega arith)

record Bodied (points edges laid said : ℕ) (ls : List (List ℕ)) (ts : List Track) : Type 0 where
  body : Body points ls ts
  all : laid + length ts ≡ edges
  same : said ≡ points

body_end : (points edges laid said : ℕ) (ts : List Track) (f : FileFault) → ◌≡◌ {A = Reading} (Ok (said, ts)) (cond (eqb laid edges) (Ok (points, [])) (Err f)) → Bodied points edges laid said [] ts
body_end points edges laid said ts f e =
    elim (cond_split (eqb laid edges) (Ok (points, [])) (Err f) (Ok (said, ts)) e) [
      | inl q ↦
          let y = q.1 in
          let n : ◌≡◌ {A = ℕ × List Track} (said, ts) (points, []) = cc in
          let whole = eqb-true laid edges q.0 in
          record {
            body = subst (Body points []) (sym (ap (λ x. x.1) n)) grammar.no_line;
            all = omega (arith, ap (λ x. length x.1) n);
            same = ap (λ x. x.0) n;
          }
      | inr q ↦ let y = q.1 in let z : ◌≡◌ {A = ℕ} 0 1 = cc in absurd (omega arith)
    ]

body_line : (points edges : ℕ) (l : List ℕ) (ls : List (List ℕ)) (laid number said : ℕ) (ts : List Track) (r : Result Content LineFault)
    → ((k n : ℕ) (us : List Track) → Ok (said, us) ≡ walk ls (Within points edges k) n → Bodied points edges k said ls us)
    → r ≡ line_of (Within points edges laid) l → Ok (said, ts) ≡ follow r (walk ls) (Within points edges laid) number → Bodied points edges laid said (l ∷ ls) ts
body_line points edges l ls laid number said ts (Ok (comment text)) others p e =
    let o = onto_back said ts [] (walk ls (Within points edges laid) (number + 1)) e in
    let h = others laid (number + 1) o.vs o.rest in
    record {
      body = subst (Body points (l ∷ ls)) (sym o.all) (grammar.comment l ls o.vs (comment_written (Within points edges laid) l text p) h.body);
      all = ap (λ x. laid + length x) o.all ∙ h.all;
      same = h.same;
    }
body_line points edges l ls laid number said ts (Ok (problem m n)) others p e =
    let q = (problem_is (Within points edges laid) l m n p).0 in let z : ◌≡◌ {A = ℕ} 0 1 = cc in absurd (omega arith)
body_line points edges l ls laid number said ts (Ok (edge m n)) others p e =
    let o = onto_back said ts (open_track m n ∷ []) (walk ls (Within points edges (laid + 1)) (number + 1)) e in
    let h = others (laid + 1) (number + 1) o.vs o.rest in
    let k : laid + length (open_track m n ∷ o.vs) ≡ edges = omega (arith, h.all) in
    record {
      body = subst (Body points (l ∷ ls)) (sym o.all) (grammar.edge l ls o.vs m n (edge_written points edges laid m n l p) h.body);
      all = ap (λ x. laid + length x) o.all ∙ k;
      same = h.same;
    }
body_line points edges l ls laid number said ts (Err f) others p e = let z : ◌≡◌ {A = ℕ} 0 1 = cc in absurd (omega arith)

body_back : (points edges said : ℕ) (ls : List (List ℕ)) (laid number : ℕ) (ts : List Track) → Ok (said, ts) ≡ walk ls (Within points edges laid) number
    → Bodied points edges laid said ls ts
body_back points edges said [] laid number ts e = body_end points edges laid said ts (placed OutOfPlace number) e
body_back points edges said (l ∷ ls) laid number ts e =
    body_line points edges l ls laid number said ts (line_of (Within points edges laid) l) (body_back points edges said ls) refl e

body_forth : (points edges : ℕ) (ls : List (List ℕ)) (laid number : ℕ) (ts : List Track) → Body points ls ts → laid + length ts ≡ edges
    → walk ls (Within points edges laid) number ≡ Ok (points, ts)
body_forth points edges ls laid number ts grammar.no_line h =
    cond-true (eqb laid edges) (Ok (points, [])) (Err (placed OutOfPlace number)) (eq-eqb laid edges (omega arith))
body_forth points edges ls laid number ts (grammar.comment l ks us c b) h =
    ap (λ x. follow x (walk ks) (Within points edges laid) number) (comment_reads (Within points edges laid) l c)
    ∙ ap (onto []) (body_forth points edges ks laid (number + 1) us b h)
body_forth points edges ls laid number ts (grammar.edge l ks us m n s b) h =
    let k : laid + 1 + length us ≡ edges = omega arith in
    let r = edge_reads points edges laid m n l (omega arith) s in
    ap (λ x. follow x (walk ks) (Within points edges laid) number) r
    ∙ ap (onto (open_track m n ∷ [])) (body_forth points edges ks (laid + 1) (number + 1) us b k)

plan_line : (l : List ℕ) (ls : List (List ℕ)) (number said : ℕ) (ts : List Track) (r : Result Content LineFault)
    → ((n : ℕ) (us : List Track) → Ok (said, us) ≡ walk ls Start n → Plan ls said us)
    → r ≡ line_of Start l → Ok (said, ts) ≡ follow r (walk ls) Start number → Plan (l ∷ ls) said ts
plan_line l ls number said ts (Ok (comment text)) others p e =
    let o = onto_back said ts [] (walk ls Start (number + 1)) e in
    subst (Plan (l ∷ ls) said) (sym o.all) (grammar.comment l ls said o.vs (comment_written Start l text p) (others (number + 1) o.vs o.rest))
plan_line l ls number said ts (Ok (problem m n)) others p e =
    let o = onto_back said ts [] (walk ls (Within m n 0) (number + 1)) e in
    let h = body_back m n said ls 0 (number + 1) o.vs o.rest in
    let k : length o.vs ≡ n = omega (arith, h.all) in
    let made : Plan (l ∷ ls) m o.vs = grammar.problem l ls m n o.vs (problem_written Start l m n p) h.body k in
    subst (λ x. Plan (l ∷ ls) x ts) (sym h.same) (subst (Plan (l ∷ ls) m) (sym o.all) made)
plan_line l ls number said ts (Ok (edge m n)) others p e = absurd (omega (arith, (edge_is Start l m n p).2))
plan_line l ls number said ts (Err f) others p e = let z : ◌≡◌ {A = ℕ} 0 1 = cc in absurd (omega arith)

plan_back : (said : ℕ) (ls : List (List ℕ)) (number : ℕ) (ts : List Track) → Ok (said, ts) ≡ walk ls Start number → Plan ls said ts
plan_back said [] number ts e = let z : ◌≡◌ {A = ℕ} 0 1 = cc in absurd (omega arith)
plan_back said (l ∷ ls) number ts e = plan_line l ls number said ts (line_of Start l) (plan_back said ls) refl e

plan_forth : (ls : List (List ℕ)) (number said : ℕ) (ts : List Track) → Plan ls said ts → walk ls Start number ≡ Ok (said, ts)
plan_forth ls number said ts (grammar.comment l ks points us c b) =
    ap (λ x. follow x (walk ks) Start number) (comment_reads Start l c) ∙ ap (onto []) (plan_forth ks (number + 1) said us b)
plan_forth ls number said ts (grammar.problem l ks points edges us s b h) =
    let k : 0 + length us ≡ edges = omega arith in
    ap (λ x. follow x (walk ks) Start number) (problem_reads l points edges s) ∙ ap (onto []) (body_forth points edges ks 0 (number + 1) us b k)

-- a reading that gives points and tracks is what the file says
pub says_back : (bytes : List ℕ) (points : ℕ) (ts : List Track) → Ok (points, ts) ≡ plan_of bytes → Says bytes points ts
says_back bytes points ts e = record { ls = lines bytes; lines = lines_back bytes; plan = plan_back points (lines bytes) 1 ts e }

pub says_forth : (bytes : List ℕ) (points : ℕ) (ts : List Track) → Says bytes points ts → plan_of bytes ≡ Ok (points, ts)
says_forth bytes points ts s = ap (λ ls. walk ls Start 1) (lines_forth bytes s.ls s.lines) ∙ plan_forth s.ls 1 points ts s.plan
