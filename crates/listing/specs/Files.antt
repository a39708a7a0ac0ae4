-- What a file says. Assumes nothing.
use Rattle.std.specs.Prelude.{ℕ, List, length, Err, nat_lt, if◌then◌else◌}
use Rattle.network.specs.declared.track.Refusal.TheVariants.{OutOfPlace}
use Rattle.layout.specs.Plans.{Reading, plan_of}

-- its plan or first fault; more than 65,536 bytes are 13 at line 0, whatever they say
abbrev pub reading_of : List ℕ → Reading
reading_of bytes = if nat_lt 65536 (length bytes) then Err (record { refusal = OutOfPlace; line = 0 }) else plan_of bytes
