-- The refusals and their numbers. Assumes nothing.
use Rattle.std.specs.Prelude.{ℕ, List, ◌++◌, codes, decimal, Ok, Err, Result}
use Rattle.network.specs.declared.track.Refusal.{Refusal}
use Rattle.network.specs.declared.track.Refusal.TheVariants.{NoSuchTrack, AlreadyShut, AlreadyOpen, NoSuchPoint, Full, NoSuchSize, WrongLength, TooFewWords, Unbalanced, DrawAgain, UnknownLine, OutOfPlace, WrongNumber, TooFewBytes}

-- the number of each refusal
abbrev pub refusal_number : Refusal → ℕ
refusal_number NoSuchTrack = 1
refusal_number AlreadyShut = 2
refusal_number AlreadyOpen = 3
refusal_number NoSuchPoint = 4
refusal_number Full = 5
refusal_number NoSuchSize = 6
refusal_number WrongLength = 7
refusal_number TooFewWords = 8
refusal_number Unbalanced = 9
refusal_number DrawAgain = 10
refusal_number UnknownLine = 12
refusal_number OutOfPlace = 13
refusal_number WrongNumber = 14
refusal_number TooFewBytes = 15

-- an answer, with its refusal by number: contracts speak of answers in this form
abbrev pub numbered : {T : Type 0} → Result T Refusal → Result T ℕ
numbered (Ok x) = Ok x
numbered (Err refusal) = Err (refusal_number refusal)

-- how a refusal is printed
abbrev pub refusal_text : Refusal → List ℕ
refusal_text refusal = codes "refused with " ++ decimal (refusal_number refusal)
