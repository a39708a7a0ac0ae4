-- How it is printed why marks make no sheet. Assumes nothing.
use Rattle.std.specs.Prelude.{ℕ, List, codes}
use Rattle.sheet.specs.declared.mark.MarksError.{MarksError}
use Rattle.sheet.specs.declared.mark.MarksError.TheVariants.{TooMany, NotLed}

abbrev pub error_text : MarksError → List ℕ
error_text TooMany = codes "more than 2,048 marks"
error_text NotLed = codes "a mark of mates is not led well"
