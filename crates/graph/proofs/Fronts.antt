-- The first tracks of a yard, `take n y`. Assumes nothing.
use Rattle.std.proofs.Common.{◌≡◌, ℕ, zero, suc, ◌<◌, false, ◌⊎◌, List, [], ◌∷◌, length, get_or, take, refl, inl, inr, ⊎_elim, arith, length-take}
use Rattle.std.proofs.lemmas.Bool.{true≢false, cases_eq}
use Rattle.network.specs.declared.track.Track.{Track}
use Rattle.graph.specs.Yards.{Link, Open, Ends, track}

-- an open track has a number below the length
pub open_within : (y : List Track) (t : ℕ) → Open y t → t < length y
open_within [] t o = absurd (true≢false o)
open_within (x ∷ y) zero o = omega arith
open_within (x ∷ y) (suc t) o = let h = open_within y t o in omega arith

-- what the code's reads have for a default
abbrev pub blank : Track
blank = record { first = 0; second = 0; shut = false }

-- as the code reads a track, with any default
pub read : (y : List Track) (t : ℕ) (d : Track) → t < length y → get_or y t d ≡ track y t
read [] t d h = absurd (omega arith)
read (x ∷ y) zero d h = refl
read (x ∷ y) (suc t) d h = read y t d (omega arith)

pub track_take : (n : ℕ) (y : List Track) (u : ℕ) → u < n → track (take n y) u ≡ track y u
track_take zero y u h = absurd (omega arith)
track_take (suc n) [] u h = refl
track_take (suc n) (x ∷ y) zero h = refl
track_take (suc n) (x ∷ y) (suc u) h = track_take n y u (omega arith)

pub link_take : (n : ℕ) (y : List Track) (u a b : ℕ) → u < n → Open y u → Ends (track y u) a b → Link (take n y) a b
link_take n y u a b h o e = record { number = u; is_open = rw (track_take n y u h) o; ends = rw (track_take n y u h) e }

-- the links of one track more
pub take_more : (i : ℕ) (y : List Track) (a b : ℕ) → Link (take (suc i) y) a b → Link (take i y) a b ⊎ (Open y i × Ends (track y i) a b)
take_more i y a b l =
    let t = l.number in
    let low : t < suc i = omega (arith, open_within (take (suc i) y) t l.is_open, length-take (suc i) y) in
    let o : Open y t = rw (track_take (suc i) y t low) at l.is_open in
    let e : Ends (track y t) a b = rw (track_take (suc i) y t low) at l.ends in
    ⊎_elim (λ same. inr (rw same at o, rw same at e)) (λ ne. inl (link_take i y t a b (omega arith) o e)) (cases_eq t i)

pub take_wider : (i : ℕ) (y : List Track) (a b : ℕ) → Link (take i y) a b → Link (take (suc i) y) a b
take_wider i y a b l =
    let t = l.number in
    let low : t < i = omega (arith, open_within (take i y) t l.is_open, length-take i y) in
    link_take (suc i) y t a b (omega arith) (rw (track_take i y t low) at l.is_open) (rw (track_take i y t low) at l.ends)
