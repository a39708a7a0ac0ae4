-- A line that was read adds its tracks to a table that has the tracks before it. Assumes nothing.
use Rattle.std.proofs.Common.{◌≡◌, ℕ, ◌<◌, ltb, List, [], ◌∷◌, ◌++◌, length, Some, Ok, sym, arith}
use Rattle.std.proofs.lemmas.List.{append-nil}
use Rattle.std.proofs.lemmas.Bool.{and_from, lt-ltb}
use Rattle.network.specs.Tracks.{open_track}
use Rattle.network.specs.declared.track.Track.{Track}
use Rattle.table.specs.Laying.{lay_after}
use Rattle.layout.specs.declared.line.Place.{Place}
use Rattle.layout.specs.Lines.{Content, comment, problem, edge}
use Rattle.layout.specs.Places.{Sound}
use Rattle.layout.specs.Plans.{Reading, tracks_of, read_next}
use Rattle.plan.specs.AfterLine.{after_line}
use Rattle.layout.proofs.LineKinds.{edge_is}
use Rattle.layout.proofs.Walks.{Going, line_there}

lay_there : (ts : List Track) (first second : ℕ) → first < 512 → second < 512 → length ts < 2048 → lay_after ts first second ≡ ts ++ open_track first second ∷ []
lay_there ts first second a b c =
    rw (and_from (ltb first 512) (ltb second 512) (lt-ltb first 512 a) (lt-ltb second 512 b), lt-ltb (length ts) 2048 c)

pub line_laid : (plan : Reading) (ts : List Track) (ls : List (List ℕ)) (place : Place) (n : ℕ) (s : Content)
    → Sound place → Going plan ts ls place n → Ok (Some s) ≡ read_next ls place n → after_line ts s ≡ ts ++ tracks_of s
line_laid plan ts ls place n (comment line) sound inv e = sym (append-nil ts)
line_laid plan ts ls place n (problem points edges) sound inv e = sym (append-nil ts)
line_laid plan ts ls place n (edge first second) sound inv e =
    let b = (line_there ls place n (edge first second) e).0 in
    let p = edge_is place b.0 first second b.1 in
    lay_there ts first second (omega (arith, p.0, sound.0)) (omega (arith, p.1, sound.0)) (omega (arith, p.2, sound.1, inv.1))
