-- One turn of the loop over the lines of a plan. Assumes nothing.
use Rattle.std.proofs.Common.{◌≡◌, ℕ, ◌+◌, ◌<◌, Bool, true, false, cond, List, [], ◌∷◌, ◌++◌, length, Some, None, Ok, Err, Option, Result, sym, refl, ap, ◌∙◌, inl, inr, arith}
use Rattle.std.proofs.lemmas.List.{append-nil, append_assoc, length_push}
use Rattle.std.proofs.lemmas.Bool.{cases_cond}
use Rattle.network.specs.Tracks.{open_track}
use Rattle.network.specs.declared.track.Track.{Track}
use Rattle.layout.specs.declared.faults.LineFault.{LineFault}
use Rattle.layout.specs.declared.faults.LineFault.TheVariants.{OutOfPlace}
use Rattle.layout.specs.declared.faults.FileFault.{FileFault}
use Rattle.layout.specs.declared.line.Place.{Place}
use Rattle.layout.specs.declared.line.Place.TheVariants.{Start, Within}
use Rattle.layout.specs.Faults.{placed}
use Rattle.layout.specs.Layout.{rest_of}
use Rattle.layout.specs.Lines.{Content, comment, problem, edge, line_of}
use Rattle.layout.specs.Places.{next_place, complete, points_of, edges_of, laid_of}
use Rattle.layout.specs.Plans.{Reading, tracks_of, onto, follow, walk, read_next, next_of, number_after}
use Rattle.layout.proofs.LineKinds.{problem_is, edge_is}

onto_onto : (ts us : List Track) (r : Reading) → onto ts (onto us r) ≡ onto (ts ++ us) r
onto_onto ts us (Ok p) = ap (λ vs. Ok (p.0, vs)) (sym (append_assoc ts us p.1))
onto_onto ts us (Err f) = refl

follow_read : (ls : List (List ℕ)) (place : Place) (n : ℕ) (s : Content) (r : Result Content LineFault) → Ok (Some s) ≡ next_of r n
    → follow r (walk ls) place n ≡ onto (tracks_of s) (walk ls (next_place place s) (n + 1))
follow_read ls place n s (Ok t) e = let p : t ≡ s = cc in ap (λ x. onto (tracks_of x) (walk ls (next_place place x) (n + 1))) p
follow_read ls place n s (Err f) e = cc

-- the plan from a line that was read on
pub walk_read : (ls : List (List ℕ)) (place : Place) (n : ℕ) (s : Content) → Ok (Some s) ≡ read_next ls place n
    → walk ls place n ≡ onto (tracks_of s) (walk (rest_of ls) (next_place place s) (number_after ls n))
walk_read [] place n s e =
    elim (cases_cond (complete place) (Ok None) (Err (placed OutOfPlace n)) (Ok (Some s)) e) [ inl q ↦ cc | inr q ↦ cc ]
walk_read (l ∷ ls) place n s e = follow_read ls place n s (line_of place l) e

follow_fault : (ls : List (List ℕ)) (place : Place) (n : ℕ) (f : FileFault) (r : Result Content LineFault) → Err f ≡ next_of r n
    → follow r (walk ls) place n ≡ Err f
follow_fault ls place n f (Ok t) e = cc
follow_fault ls place n f (Err x) e = cc

end_fault : (b : Bool) (n : ℕ) (f g : FileFault) → ◌≡◌ {A = Result (Option Content) FileFault} (Err f) (cond b (Ok None) (Err g)) → ◌≡◌ {A = Reading} (cond b (Ok (n, [])) (Err g)) (Err f)
end_fault true n f g e = cc
end_fault false n f g e = cc

pub walk_fault : (ls : List (List ℕ)) (place : Place) (n : ℕ) (f : FileFault) → Err f ≡ read_next ls place n → walk ls place n ≡ Err f
walk_fault [] place n f e = end_fault (complete place) (points_of place) f (placed OutOfPlace n) e
walk_fault (l ∷ ls) place n f e = follow_fault ls place n f (line_of place l) e

pub next_line_is : (s : Content) (n : ℕ) (r : Result Content LineFault) → Ok (Some s) ≡ next_of r n → Ok s ≡ r
next_line_is s n (Ok t) e = cc
next_line_is s n (Err x) e = cc

-- a line that was read was there
pub line_there : (ls : List (List ℕ)) (place : Place) (n : ℕ) (s : Content) → Ok (Some s) ≡ read_next ls place n
    → ((b : List ℕ) × (Ok s ≡ line_of place b)) × (length (rest_of ls) < length ls)
line_there [] place n s e =
    elim (cases_cond (complete place) (Ok None) (Err (placed OutOfPlace n)) (Ok (Some s)) e)
    [ inl q ↦ let z : ◌≡◌ {A = ℕ} 0 1 = cc in absurd (omega arith) | inr q ↦ let z : ◌≡◌ {A = ℕ} 0 1 = cc in absurd (omega arith) ]
line_there (l ∷ ls) place n s e = ((l, next_line_is s n (line_of place l) e), omega arith)

laid_within : (place : Place) (first second : ℕ) → laid_of place < edges_of place → laid_of (next_place place (edge first second)) ≡ laid_of place + 1
laid_within Start first second h = absurd (omega arith)
laid_within (Within points edges laid) first second h = refl

-- as many tracks are laid as the place says
laid_next : (place : Place) (b : List ℕ) (s : Content) (ts : List Track) → length ts ≡ laid_of place → Ok s ≡ line_of place b
    → length (ts ++ tracks_of s) ≡ laid_of (next_place place s)
laid_next place b (comment line) ts h e = ap length (append-nil ts) ∙ h
laid_next place b (problem points edges) ts h e = ap length (append-nil ts) ∙ h ∙ ap laid_of (problem_is place b points edges e).0
laid_next place b (edge first second) ts h e =
    length_push ts (open_track first second) ∙ ap (λ n. n + 1) h ∙ sym (laid_within place first second (edge_is place b first second e).2)

-- the tracks that are laid, with what the lines that are left say, are the plan
abbrev pub Going : Reading → List Track → List (List ℕ) → Place → ℕ → Type 0
Going plan ts ls place n = (plan ≡ onto ts (walk ls place n)) × (length ts ≡ laid_of place)

-- one turn
pub going_on : (plan : Reading) (ts us : List Track) (ls ms : List (List ℕ)) (place next : Place) (n m : ℕ) (s : Content)
    → Going plan ts ls place n → Ok (Some s) ≡ read_next ls place n → us ≡ ts ++ tracks_of s → ms ≡ rest_of ls → next ≡ next_place place s → m ≡ number_after ls n
    → Going plan us ms next m
going_on plan ts us ls ms place next n m s inv e u l p k =
    let b = (line_there ls place n s e).0 in
    let first : plan ≡ onto (ts ++ tracks_of s) (walk (rest_of ls) (next_place place s) (number_after ls n)) =
    inv.0 ∙ ap (onto ts) (walk_read ls place n s e) ∙ onto_onto ts (tracks_of s) (walk (rest_of ls) (next_place place s) (number_after ls n)) in
    let second = laid_next place b.0 s ts inv.1 b.1 in (
      first ∙ sym (ap (λ x. onto x (walk ms next m)) u ∙ ap (λ x. onto (ts ++ tracks_of s) (walk x next m)) l
          ∙ ap (λ x. onto (ts ++ tracks_of s) (walk (rest_of ls) x m)) p ∙ ap (λ x. onto (ts ++ tracks_of s) (walk (rest_of ls) (next_place place s) x)) k),
      ap length u ∙ second ∙ sym (ap laid_of p),
    )
