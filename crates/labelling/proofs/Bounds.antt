-- Balance below a bound, and past it. Assumes nothing.
use Rattle.std.proofs.Common.{◌≡◌, ℕ, ◌<◌, ◌≤◌, Bool, true, false, List, length, Decides, sym, refl, ◌∙◌, ⊎_elim, arith}
use Rattle.std.specs.Bool.{MatchBool}
use Rattle.std.proofs.lemmas.List.{get_or_past}
use Rattle.std.proofs.lemmas.Bool.{false≢true, cases_lt}
use Rattle.network.specs.Tracks.{Points}
use Rattle.network.specs.declared.track.Track.{Track}
use Rattle.graph.specs.Yards.{track}
use Rattle.graph.proofs.Fronts.{open_within}
use Rattle.label.specs.Groups.{Group}
use Rattle.circulation.specs.Labels.{label, total, leaves_from, enters_at}
use Rattle.circulation.proofs.Carried.{total_zero}
use Rattle.labelling.specs.Ends.{at_end}
use Rattle.labelling.specs.declared.ends.End.{End}
use Rattle.labelling.specs.declared.ends.End.TheVariants.{First, Second}
use Rattle.labelling.proofs.Points.{end_low, end_told}

-- a test that is true where A holds and false where B does decides what A shows and B refutes
pub decides_match : {P A B : Type 0} (r : Bool) → MatchBool r A B → (A → P) → (B → ¬ P) → Decides r P
decides_match true m shows refutes = (λ _. shows m, λ _. refl)
decides_match false m shows refutes = (λ e. absurd (false≢true e), λ p. absurd (refutes m p))

module _ {K : Type 0} (G : Group K) (y : List Track) (ks : List K) where
  -- no track has an end past the points
  no_end : Points y → (end : End) (p : ℕ) → 512 ≤ p → total G (at_end end p) y ks ≡ G.zero
  no_end points end p h = total_zero G (at_end end p) y ks (λ t e.
      let w = end_told end p (track y t) e in
      absurd (let low = end_low y end t (open_within y t w.0) points in omega (arith, w.1)))

  pub at_all_points : Points y → ((p : ℕ) → p < 512 → total G (leaves_from p) y ks ≡ total G (enters_at p) y ks) → (p : ℕ) → total G (leaves_from p) y ks ≡ total G (enters_at p) y ks
  at_all_points points low p = ⊎_elim (low p) (λ past. no_end points First p past ∙ sym (no_end points Second p past)) (cases_lt p 512)

  pub all_shut_zero : length ks ≡ length y → ((t : ℕ) → t < length y → (track y t).shut ≡ true → label G ks t ≡ G.zero) → (t : ℕ) → (track y t).shut ≡ true → label G ks t ≡ G.zero
  all_shut_zero long low t s = ⊎_elim (λ l. low t l s) (λ past. get_or_past ks t G.zero (omega arith)) (cases_lt t (length y))
