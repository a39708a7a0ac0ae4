-- Labelling is refused at once or never. Assumes nothing.
use Rattle.std.proofs.Common.{◌≡◌, ℕ, ◌≤◌, List, length, Ok, Err, ◌∙◌, subst, inl, inr, ⊎_elim, arith}
use Rattle.std.proofs.lemmas.Bool.{cases_eq}
use Rattle.network.specs.declared.track.Track.{Track}
use Rattle.label.specs.Groups.{Group}
use Rattle.graph.specs.Forests.{WordsNeeded}
use Rattle.graph.proofs.Counting.{count_same}
use Rattle.labelling.specs.Told.{LabelAnswer, LabelRefusal}
use Rattle.label_c.specs.Told.{Repeated}

-- a list as long as the tracks and enough words are not refused
not_refused : (y : List Track) (long given number n : ℕ) → long ≡ length y → WordsNeeded y n → n ≤ given → LabelRefusal y long given number → ⊥
not_refused y long given number n e w le (inl h) = h.0 e
not_refused y long given number n e w le (inr h) = let same = count_same w h.1.1 in let less = h.1.2 in omega arith

-- a refusal in any round is that of the first
pub refused_once : {K : Type 0} (G : Group K) (y : List Track) (drawn : ℕ → K) (given turn number : ℕ) (before mid after : List K) → length mid ≡ length before → Repeated G y drawn given turn before mid (Ok tt) → LabelAnswer G y drawn given mid after (Err number) → LabelAnswer G y drawn given before after (Err number)
refused_once G y drawn given turn number before mid after long had a =
    ⊎_elim
    (λ e. subst (λ ks. LabelAnswer G y drawn given ks after (Err number)) (had.0 e) a)
    (λ e. let h = had.1 e in absurd (not_refused y (length mid) given number h.0 (long ∙ h.1.0) h.1.1 h.1.2 a.0))
    (cases_eq turn 0)
