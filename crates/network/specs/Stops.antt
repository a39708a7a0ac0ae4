-- How want of memory and a refusal are printed. Assumes nothing.
use Rattle.std.specs.Prelude.{ℕ, List, codes}
use Rattle.network.specs.Refusals.{refusal_text}
use Rattle.network.specs.declared.stop.Stop.{Stop}
use Rattle.network.specs.declared.stop.Stop.TheVariants.{Refused, NoMemory}

abbrev pub stop_text : Stop → List ℕ
stop_text (Refused refusal) = refusal_text refusal
stop_text NoMemory = codes "out of memory"
