-- The answers to questions on a sheet: by its marks, and by the yard that they are of. Assumes nothing.
use Rattle.std.specs.Prelude.{◌≡◌, ℕ, ◌<◌, ◌≤◌, Bool, true, false, cond, not, ◌&&◌, ◌||◌, ◌⊎◌, List, [], ◌∷◌, length, Ok, Err, Decides, Result, ◌==◌, nat_lt}
use Rattle.network.specs.declared.track.Track.{Track}
use Rattle.graph.specs.Classes.{BridgeCount, ClassCount, CutPairCount}
use Rattle.graph.specs.Counts.{Count, PairCount}
use Rattle.graph.specs.Yards.{Parts}
use Rattle.sheet.specs.declared.mark.Mark.{Mark}
use Rattle.sheet.specs.declared.mark.Mark.TheVariants.{Shut, Single, Mates, Alone}
use Rattle.sheet.specs.declared.total.Totals.{Totals}
use Rattle.sheet.specs.Marks.{MarkOf, mark_at, is_mates, lead_in}

-- the mark of the track t, or 1 where there is no such track
abbrev pub mark_answer : List Mark → ℕ → Result Mark ℕ
mark_answer ms t = cond (nat_lt t (length ms)) (Ok (mark_at ms t)) (Err 1)

-- the same of a yard: it is the mark that the definitions give
abbrev pub MarkTold : List Track → ℕ → Result Mark ℕ → Type 0
MarkTold y t (Ok m) = (t < length y) × MarkOf y t m
MarkTold y t (Err number) = (length y ≤ t) × (number ≡ 1)

abbrev pub is_single : Mark → Bool
is_single Shut = false
is_single Single = true
is_single (Mates lead size) = false
is_single Alone = false

-- whether the marks m of t and n of u say that the two part the yard: one is single, or they are two mates with one lead
abbrev pub parting_by : ℕ → ℕ → Mark → Mark → Bool
parting_by t u m n = is_single m || (is_single n || (not (t == u) && (is_mates m && (is_mates n && lead_in m == lead_in n))))

-- whether t and u part the yard together, or 1 where one of them is absent
abbrev pub parting_answer : List Mark → ℕ → ℕ → Result Bool ℕ
parting_answer ms t u = cond (nat_lt t (length ms) && nat_lt u (length ms)) (Ok (parting_by t u (mark_at ms t) (mark_at ms u))) (Err 1)

-- the same of a yard: exactly as the definition of parting says
abbrev pub PartingTold : List Track → ℕ → ℕ → Result Bool ℕ → Type 0
PartingTold y t u (Ok answer) = (t < length y) × (u < length y) × Decides answer (Parts y (t ∷ u ∷ []))
PartingTold y t u (Err number) = ((length y ≤ t) ⊎ (length y ≤ u)) × (number ≡ 1)

-- t is marked mates with itself for a lead; u and t are marked mates with one lead
abbrev pub LeadMark : List Mark → ℕ → Type 0
LeadMark ms t = (is_mates (mark_at ms t) ≡ true) × (lead_in (mark_at ms t) ≡ t)

abbrev pub MateMarks : List Mark → ℕ → ℕ → Type 0
MateMarks ms u t = (is_mates (mark_at ms u) ≡ true) × (is_mates (mark_at ms t) ≡ true) × (lead_in (mark_at ms u) ≡ lead_in (mark_at ms t))

-- the totals of the first n marks: those marked single, those that are their own lead, and the pairs of mates with one lead
pub record TotalsOf (ms : List Mark) (n : ℕ) (totals : Totals) : Type 0 where
  pub singles : Count (λ t. is_single (mark_at ms t) ≡ true) n totals.singles
  pub classes : Count (LeadMark ms) n totals.classes
  pub pairs : PairCount (MateMarks ms) n totals.pairs

-- the same of a yard: its bridges, classes and cut pairs
pub record TotalsTold (y : List Track) (totals : Totals) : Type 0 where
  pub bridges : BridgeCount y totals.singles
  pub classes : ClassCount y totals.classes
  pub pairs : CutPairCount y totals.pairs
