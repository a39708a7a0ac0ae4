-- The law of reading: the answer that the reading of a file gives is right. Assumes nothing.
use Rattle.std.proofs.Common.{◌≡◌, ℕ, ◌+◌, false, List, [], ◌∷◌, ◌++◌, length, Ok, Err, Result, sym, refl, ap, ◌∙◌, subst, inl, inr, arith}
use Rattle.std.proofs.lemmas.List.{append-nil}
use Rattle.std.proofs.lemmas.Bool.{cond-false, eqb-false, ne_eqb}
use Rattle.network.specs.Refusals.{refusal_number}
use Rattle.network.specs.declared.track.Track.{Track}
use Rattle.layout.specs.declared.faults.LineFault.{LineFault}
use Rattle.layout.specs.declared.faults.LineFault.TheVariants.{OutOfPlace}
use Rattle.layout.specs.declared.faults.FileFault.{FileFault}
use Rattle.layout.specs.declared.line.Place.{Place}
use Rattle.layout.specs.declared.line.Place.TheVariants.{Start, Within}
use Rattle.layout.specs.Faults.{placed}
use Rattle.layout.specs.Layout.{lines}
use Rattle.layout.specs.Lines.{Content, comment, problem, edge, line_of}
use Rattle.layout.specs.Places.{next_place, complete, points_of, Sound}
use Rattle.layout.specs.Plans.{Reading, tracks_of, onto, follow, walk, plan_of, answer_to, planned}
use Rattle.layout.specs.Grammar.{Lines, Says}
use Rattle.layout.specs.FileFaults.{Fault, Leads, Incomplete, Faulty, Answered}
use Rattle.layout.specs.FileFaults as faults
use Rattle.layout.proofs.FileLines.{lines_forth, lines_back}
use Rattle.layout.proofs.Grammars.{says_back, says_forth}
use Rattle.layout.proofs.LineFaults.{line_fault_only, line_fault_every}
use Rattle.layout.proofs.LineKinds.{cond_split, problem_is, edge_is, sound_next}
use Rattle.layout.proofs.Written.{comment_written, comment_reads, problem_written, problem_reads, edge_written, edge_reads}

-- a line that is read leads on
leads_on : (place : Place) (l : List ℕ) (s : Content) (ls : List (List ℕ)) (there : Place) → Ok s ≡ line_of place l → Leads ls (next_place place s) there → Leads (l ∷ ls) place there
leads_on place l (comment text) ls there e h = faults.comment l ls place there (comment_written place l text e) h
leads_on Start l (problem m n) ls there e h = faults.problem l ls m n there (problem_written Start l m n e) h
leads_on (Within a b c) l (problem m n) ls there e h =
    let q = (problem_is (Within a b c) l m n e).0 in let z : ◌≡◌ {A = ℕ} 0 1 = cc in absurd (omega arith)
leads_on Start l (edge m n) ls there e h = absurd (omega (arith, (edge_is Start l m n e).2))
leads_on (Within a b c) l (edge m n) ls there e h = faults.edge l ls a b c m n there (edge_is (Within a b c) l m n e).2 (edge_written a b c m n l e) h

-- the first fault of lines, of which the first stands at this place and has the number n
data FaultyFrom (ls : List (List ℕ)) (place : Place) (n number line : ℕ) : Type 0 where
  in_line : (before after : List (List ℕ)) (l : List ℕ) (there : Place) → ls ≡ before ++ l ∷ after → Leads before place there → Fault there l number → line ≡ length before + n
      → FaultyFrom ls place n number line
  at_end : (there : Place) → Leads ls place there → Incomplete there → number ≡ 13 → line ≡ length ls + n → FaultyFrom ls place n number line

faulty_on : (place : Place) (l : List ℕ) (s : Content) (ls : List (List ℕ)) (n number line : ℕ) → Ok s ≡ line_of place l → FaultyFrom ls (next_place place s) (n + 1) number line
    → FaultyFrom (l ∷ ls) place n number line
faulty_on place l s ls n number line e (in_line before after x there q h f k) =
    in_line (l ∷ before) after x there (ap (λ y. l ∷ y) q) (leads_on place l s before there e h) f (omega arith)
faulty_on place l s ls n number line e (at_end there h f m k) = at_end there (leads_on place l s ls there e h) f m (omega arith)

incomplete_back : (place : Place) → Sound place → complete place ≡ false → Incomplete place
incomplete_back Start h e = faults.no_problem
incomplete_back (Within a b c) h e = let ne = eqb-false c b e in faults.too_few a b c (omega (arith, h.2))

incomplete_forth : (place : Place) → Incomplete place → complete place ≡ false
incomplete_forth place faults.no_problem = refl
incomplete_forth place (faults.too_few a b c h) = ne_eqb c b (omega arith)

onto_err : (ts : List Track) (r : Reading) (f : FileFault) → Err f ≡ onto ts r → Err f ≡ r
onto_err ts (Ok p) f e = cc
onto_err ts (Err x) f e = e

faulty_end : (place : Place) (n : ℕ) (f : FileFault) → Sound place → Err f ≡ walk [] place n → FaultyFrom [] place n (refusal_number f.refusal) f.line
faulty_end place n f h e =
    elim (cond_split (complete place) (Ok (points_of place, [])) (Err (placed OutOfPlace n)) (Err f) e) [
      | inl q ↦ let y = q.1 in let z : ◌≡◌ {A = ℕ} 0 1 = cc in absurd (omega arith)
      | inr q ↦
          let y = q.1 in
          let same : f ≡ placed OutOfPlace n = cc in
          at_end place (faults.no_line place) (incomplete_back place h q.0) (ap (λ g. refusal_number g.refusal) same) (omega (arith, ap (λ g. g.line) same))
    ]

faulty_line : (place : Place) (l : List ℕ) (ls : List (List ℕ)) (n : ℕ) (f : FileFault) (r : Result Content LineFault)
    → ((next : Place) (m : ℕ) → Sound next → Err f ≡ walk ls next m → FaultyFrom ls next m (refusal_number f.refusal) f.line)
    → Sound place → r ≡ line_of place l → Err f ≡ follow r (walk ls) place n → FaultyFrom (l ∷ ls) place n (refusal_number f.refusal) f.line
faulty_line place l ls n f (Ok s) others h p e =
    faulty_on place l s ls n (refusal_number f.refusal) f.line p
    (others (next_place place s) (n + 1) (sound_next place l s h p) (onto_err (tracks_of s) (walk ls (next_place place s) (n + 1)) f e))
faulty_line place l ls n f (Err x) others h p e =
    let same : f ≡ placed x n = cc in
    in_line [] ls l place refl (faults.no_line place)
    (subst (λ g. Fault place l (refusal_number g.refusal)) (sym same) (line_fault_only place l x (sym p)))
    (omega (arith, ap (λ g. g.line) same))

faulty_back : (f : FileFault) (ls : List (List ℕ)) (place : Place) (n : ℕ) → Sound place → Err f ≡ walk ls place n → FaultyFrom ls place n (refusal_number f.refusal) f.line
faulty_back f [] place n h e = faulty_end place n f h e
faulty_back f (l ∷ ls) place n h e = faulty_line place l ls n f (line_of place l) (faulty_back f ls) h refl e

faulty_file : (bytes : List ℕ) (number line : ℕ) → FaultyFrom (lines bytes) Start 1 number line → Faulty bytes number line
faulty_file bytes number line (in_line before after l there q h f k) =
    subst (Faulty bytes number) (sym k) (faults.in_line before after l there number (subst (Lines bytes) q (lines_back bytes)) h f)
faulty_file bytes number line (at_end there h f m k) =
    subst (λ x. Faulty bytes x line) (sym m) (subst (Faulty bytes 13) (sym k) (faults.at_end (lines bytes) there (lines_back bytes) h f))

-- where lines lead to a fault, that is the fault that is read
leads_fault : (ls : List (List ℕ)) (place there : Place) → Leads ls place there → (rest : List (List ℕ)) (n m : ℕ) (f : FileFault) → m ≡ length ls + n
    → walk rest there m ≡ Err f → walk (ls ++ rest) place n ≡ Err f
leads_fault ls place there (faults.no_line x) rest n m f k e =
    let same : n ≡ m = omega arith in ap (walk rest x) same ∙ e
leads_fault ls place there (faults.comment l ks x y s h) rest n m f k e =
    ap (λ r. follow r (walk (ks ++ rest)) x n) (comment_reads x l s)
    ∙ ap (onto []) (leads_fault ks x y h rest (n + 1) m f (omega arith) e)
leads_fault ls place there (faults.problem l ks a b y s h) rest n m f k e =
    ap (λ r. follow r (walk (ks ++ rest)) Start n) (problem_reads l a b s)
    ∙ ap (onto []) (leads_fault ks (Within a b 0) y h rest (n + 1) m f (omega arith) e)
leads_fault ls place there (faults.edge l ks a b c i j y less s h) rest n m f k e =
    ap (λ r. follow r (walk (ks ++ rest)) (Within a b c) n) (edge_reads a b c i j l less s)
    ∙ ap (onto (tracks_of (edge i j))) (leads_fault ks (Within a b (c + 1)) y h rest (n + 1) m f (omega arith) e)

-- the reading of a faulty file is its fault
record Found (bytes : List ℕ) (number line : ℕ) : Type 0 where
  fault : FileFault
  is : plan_of bytes ≡ Err fault
  by_number : refusal_number fault.refusal ≡ number
  at_line : fault.line ≡ line

faulty_forth : (bytes : List ℕ) (number line : ℕ) → Faulty bytes number line → Found bytes number line
faulty_forth bytes number line (faults.in_line before after l place k ls h f) =
    let r = line_fault_every place l k f in
    record {
      fault = placed r.fault (length before + 1);
      is = ap (λ x. walk x Start 1) (lines_forth bytes (before ++ l ∷ after) ls)
          ∙ leads_fault before Start place h (l ∷ after) 1 (length before + 1) (placed r.fault (length before + 1)) refl
          (ap (λ x. follow x (walk after) place (length before + 1)) r.is);
      by_number = r.by_number;
      at_line = refl;
    }
faulty_forth bytes number line (faults.at_end ls place is h f) =
    record {
      fault = placed OutOfPlace (length ls + 1);
      is = ap (λ x. walk x Start 1) (lines_forth bytes ls is ∙ sym (append-nil ls))
          ∙ leads_fault ls Start place h [] 1 (length ls + 1) (placed OutOfPlace (length ls + 1)) refl
          (cond-false (complete place) (Ok (points_of place, [])) (Err (placed OutOfPlace (length ls + 1))) (incomplete_forth place f));
      by_number = refl;
      at_line = refl;
    }

answered_at : (bytes : List ℕ) (reading : Reading) → reading ≡ plan_of bytes → Answered bytes (answer_to reading) (planned reading)
answered_at bytes (Ok p) e =
    record {
      accepted_only = λ points q. let same : p.0 ≡ points = cc in subst (λ x. Says bytes x p.1) same (says_back bytes p.0 p.1 e);
      accepted_every = λ points ts s.
          let q = e ∙ says_forth bytes points ts s in
          let same : ◌≡◌ {A = ℕ × List Track} p (points, ts) = cc in
          (ap (λ x. Ok x.0) same, ap (λ x. x.1) same);
      refused_only = λ fault q. let z : ◌≡◌ {A = ℕ} 0 1 = cc in absurd (omega arith);
      refused_every = λ number line s.
          let f = faulty_forth bytes number line s in
          let q = e ∙ f.is in
          let z : ◌≡◌ {A = ℕ} 0 1 = cc in absurd (omega arith);
    }
answered_at bytes (Err x) e =
    record {
      accepted_only = λ points q. let z : ◌≡◌ {A = ℕ} 0 1 = cc in absurd (omega arith);
      accepted_every = λ points ts s.
          let q = e ∙ says_forth bytes points ts s in
          let z : ◌≡◌ {A = ℕ} 0 1 = cc in absurd (omega arith);
      refused_only = λ fault q.
          let same : x ≡ fault = cc in
          let found = faulty_file bytes (refusal_number x.refusal) x.line (faulty_back x (lines bytes) Start 1 (omega arith, omega arith, omega arith) e) in
          (subst (λ f. Faulty bytes (refusal_number f.refusal) f.line) same found, refl);
      refused_every = λ number line s.
          let f = faulty_forth bytes number line s in
          record { fault = f.fault; is = ap answer_to (e ∙ f.is); by_number = f.by_number; at_line = f.at_line };
    }

-- what is answered as the reading says, with its tracks, is right
pub answered : (bytes : List ℕ) (answer : Result ℕ FileFault) (tracks : List Track) → answer ≡ answer_to (plan_of bytes) → tracks ≡ planned (plan_of bytes)
    → Answered bytes answer tracks
answered bytes answer tracks p q =
    subst (λ x. Answered bytes x tracks) (sym p) (subst (Answered bytes (answer_to (plan_of bytes))) (sym q) (answered_at bytes (plan_of bytes) refl))
