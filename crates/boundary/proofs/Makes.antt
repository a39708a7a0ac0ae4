-- A track that is laid after others, open or shut. Assumes nothing.
use Rattle.std.proofs.Common.{◌≡◌, ℕ, ◌-◌, ◌<◌, true, false, ltb, List, [], ◌∷◌, ◌++◌, length, sym, refl, ap, ◌∙◌, arith}
use Rattle.std.proofs.lemmas.Bool.{and_from, lt-ltb}
use Rattle.network.specs.Tracks.{open_track, are_points, with_state, state_after, Within}
use Rattle.network.specs.declared.track.Track.{Track}
use Rattle.network.proofs.Layers.{after_back}
use Rattle.table.specs.Laying.{lay_after}

points_are : (a b : ℕ) → a < 512 → b < 512 → are_points a b ≡ true
points_are a b h k = and_from (ltb a 512) (ltb b 512) (lt-ltb a 512 h) (lt-ltb b 512 k)

lay_there : (ts : List Track) (first second : ℕ) → first < 512 → second < 512 → length ts < 2048 → lay_after ts first second ≡ ts ++ open_track first second ∷ []
lay_there ts first second a b c =
    rw (points_are first second a b, lt-ltb (length ts) 2048 c)

shut_last : (ts : List Track) (t : Track) → t.shut ≡ false → state_after true (ts ++ t ∷ []) (length ts) ≡ ts ++ with_state true t ∷ []
shut_last ts t e =
    let none : length ts - length ts ≡ 0 = omega arith in
    after_back true ts (t ∷ []) (length ts) (omega arith) ∙ ap (λ k. ts ++ state_after true (t ∷ []) k) none ∙ rw e

-- a shut track is laid open, and then shut
pub put_shut : (ts laid after : List Track) (k : ℕ) (t : Track) → Within t → length ts < 2048 → t.shut ≡ true → k ≡ length ts → laid ≡ lay_after ts t.first t.second → after ≡ state_after true laid k → after ≡ ts ++ t ∷ []
put_shut ts laid after k t w room e at is then =
    then
    ∙ ap (λ l. state_after true l k) (is ∙ lay_there ts t.first t.second w.0 w.1 room)
    ∙ ap (state_after true (ts ++ open_track t.first t.second ∷ [])) at
    ∙ shut_last ts (open_track t.first t.second) refl
    ∙ ap (λ s. ts ++ record { first = t.first; second = t.second; shut = s } ∷ []) (sym e)
