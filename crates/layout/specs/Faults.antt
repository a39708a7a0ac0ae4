-- The faults of lines and files, by refusal and by number. Assumes nothing.
use Rattle.std.specs.Prelude.{ℕ}
use Rattle.network.specs.Refusals.{refusal_number}
use Rattle.network.specs.declared.track.Refusal.{Refusal}
use Rattle.network.specs.declared.track.Refusal.TheVariants as refusal
use Rattle.layout.specs.declared.faults.LineFault.{LineFault}
use Rattle.layout.specs.declared.faults.LineFault.TheVariants.{UnknownKind, OutOfPlace, Number}
use Rattle.layout.specs.declared.faults.FaultAt.{FaultAt}
use Rattle.layout.specs.declared.faults.FileFault.{FileFault}

-- the refusal of a file that has this fault
abbrev pub fault_refusal : LineFault → Refusal
fault_refusal UnknownKind = refusal.UnknownLine
fault_refusal OutOfPlace = refusal.OutOfPlace
fault_refusal (Number e) = refusal.WrongNumber

-- the number of a fault: that of its refusal
abbrev pub fault_number : LineFault → ℕ
fault_number fault = refusal_number (fault_refusal fault)

-- a fault of the line with this number
abbrev pub fault_at : LineFault → ℕ → FaultAt
fault_at fault line = record { fault = fault; line = line }

-- the same, as the fault of the file
abbrev pub placed : LineFault → ℕ → FileFault
placed fault line = record { refusal = fault_refusal fault; line = line }
