-- Flags of the forest, with false behind them. Assumes nothing.
use Rattle.std.proofs.Common.{◌≡◌, ℕ, ◌-◌, ◌<◌, ◌≤◌, Bool, false, List, ◌++◌, length, get_or, drop, replicate, Decides, ◌∙◌, ⊎_elim, arith}
use Rattle.std.proofs.lemmas.List.{get_or_append_left, get_or-append_right, get_or-drop, get_or-replicate, get_or_past, length-append, length-drop, length-replicate}
use Rattle.std.proofs.lemmas.Bool.{cases_lt, false≢true}
use Rattle.std.proofs.lemmas.Bool.Decides.{Decides-at}
use Rattle.network.specs.declared.track.Track.{Track}
use Rattle.graph.specs.Forests.{InForest}
use Rattle.graph.specs.Degrees.{flagged}
use Rattle.graph.proofs.Fronts.{open_within}

none_flagged : (m i : ℕ) → get_or (replicate m false) i false ≡ false
none_flagged m i = ⊎_elim (λ l. get_or-replicate m i false false l) (λ past. get_or_past (replicate m false) i false (omega (arith, length-replicate m false))) (cases_lt i m)

module _ (y : List Track) (n m : ℕ) (part : List Bool) (long : length part ≡ n) (few : n ≤ m) where
  pub flags_long : length (part ++ drop n (replicate m false)) ≡ m
  flags_long = length-append part (drop n (replicate m false)) ∙ omega (arith, long, length-drop n (replicate m false), length-replicate m false)

  pub flags_told : n ≡ length y → ((t : ℕ) → t < length y → Decides (get_or part t false) (InForest y t)) → (t : ℕ) → Decides (flagged (part ++ drop n (replicate m false)) t) (InForest y t)
  flags_told all told t =
      ⊎_elim
      (λ low. Decides-at _ _ (get_or_append_left part (drop n (replicate m false)) false t (omega arith)) (told t low))
      (λ past.
      Decides-at _ false
      (get_or-append_right part (drop n (replicate m false)) n t false long (omega arith) ∙ get_or-drop n (replicate m false) (t - n) false ∙ none_flagged m _)
      (λ e. absurd (false≢true e), λ f. absurd (let l = open_within y t f.0 in omega arith)))
      (cases_lt t (length y))
