-- What judging answers, and what the sheet then holds. Assumes nothing.
use Rattle.std.specs.Prelude.{◌≡◌, ℕ, ◌≢◌, ◌⊎◌, List, length, Ok, Err, Result}
use Rattle.network.specs.declared.track.Track.{Track}
use Rattle.label.specs.Groups.{Group}
use Rattle.circulation.specs.Labels.{Balanced}
use Rattle.sheet.specs.declared.record.Sheet.{Sheet}
use Rattle.sheet.specs.Marks.{MarksOf}
use Rattle.sheet.specs.Meaning.{sheet_marks, sheet_letter}
use Rattle.judging.specs.Accepting.{Accepted}

-- why labels are turned away: 7, they are not as many as the tracks; else 9, they do not balance; else 10, they balance and are not accepted
abbrev pub JudgeRefusal : {K : Type 0} → Group K → List Track → List K → ℕ → Type 0
JudgeRefusal G y ks number =
    ((length ks ≢ length y) × (number ≡ 7))
    ⊎ (((length ks ≡ length y) × (¬ Balanced G y ks) × (number ≡ 9)) ⊎ (Balanced G y ks × (¬ Accepted G y ks) × (number ≡ 10)))

-- the answer to a judgement, and the sheet before and after: where the labels are accepted, the letter of their kind and the marks that the definitions give
-- the yard; else a refusal, and the sheet as it was
abbrev pub JudgeAnswer : {K : Type 0} → Group K → ℕ → List Track → List K → Sheet → Sheet → Result (Unit {0}) ℕ → Type 0
JudgeAnswer G letter y ks before after (Ok _) = Accepted G y ks × MarksOf y (sheet_marks after) × (sheet_letter after ≡ letter)
JudgeAnswer G letter y ks before after (Err number) = JudgeRefusal G y ks number × (after ≡ before)
