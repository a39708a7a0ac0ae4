-- What a sheet holds. Assumes nothing.
use Rattle.std.specs.Prelude.{ℕ, List, vec_items}
use Rattle.sheet.specs.declared.mark.Mark.{Mark}
use Rattle.sheet.specs.declared.record.Sheet.{Sheet}

-- the marks of a sheet, in rising number of the tracks
abbrev pub sheet_marks : Sheet → List Mark
sheet_marks s = vec_items s.marks

-- the letter of a sheet
abbrev pub sheet_letter : Sheet → ℕ
sheet_letter s = s.letter
