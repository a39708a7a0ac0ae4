-- The parts of a file: its lines, their fields, and the numbers in them. Assumes nothing.
use Rattle.std.specs.Prelude.{ℕ, ◌+◌, ◌-◌, ◌*◌, cond, ◌&&◌, List, [], ◌∷◌, length, Some, None, Ok, Err, Option, Result, ◌==◌, nat_le}
use Rattle.layout.specs.declared.faults.NumberFault.{NumberFault}
use Rattle.layout.specs.declared.faults.NumberFault.TheVariants.{Wrong}

-- pieces, with a byte before the first
abbrev pub onto_first : ℕ → List (List ℕ) → List (List ℕ)
onto_first b [] = (b ∷ []) ∷ []
onto_first b (w ∷ ws) = (b ∷ w) ∷ ws

-- the pieces that the byte `at` parts: always one more than there are such bytes
abbrev pub split : ℕ → List ℕ → List (List ℕ)
split at [] = [] ∷ []
split at (b ∷ bs) = cond (b == at) ([] ∷ split at bs) (onto_first b (split at bs))

-- a piece, unless it is empty
abbrev pub if_any : List ℕ → List (List ℕ)
if_any [] = []
if_any (b ∷ w) = (b ∷ w) ∷ []

-- all the pieces, without the last where it is empty
abbrev pub unless_empty : List (List ℕ) → List (List ℕ)
unless_empty [] = []
unless_empty (w ∷ []) = if_any w
unless_empty (w ∷ v ∷ ws) = w ∷ unless_empty (v ∷ ws)

-- the lines of a file: a line feed ends each, and the last may lack it
abbrev pub lines : List ℕ → List (List ℕ)
lines bytes = unless_empty (split 10 bytes)

-- what follows the first line feed: nothing where there is none
abbrev pub past_line : List ℕ → List ℕ
past_line [] = []
past_line (b ∷ bs) = cond (b == 10) bs (past_line bs)

-- the pieces that are not empty, and the last, whatever it is
abbrev pub kept : List (List ℕ) → List (List ℕ)
kept [] = []
kept (w ∷ []) = w ∷ []
kept ([] ∷ v ∷ ws) = kept (v ∷ ws)
kept ((b ∷ w) ∷ v ∷ ws) = (b ∷ w) ∷ kept (v ∷ ws)

-- the fields of what follows the letter of a line: one or more spaces stand before each,
-- and a space at the end is followed by one more, an empty one
abbrev pub fields : List ℕ → List (List ℕ)
fields [] = []
fields (b ∷ bs) = kept (split 32 (b ∷ bs))

-- all but the first
abbrev pub rest_of : List (List ℕ) → List (List ℕ)
rest_of [] = []
rest_of (w ∷ ws) = ws

-- the first, if there is one
abbrev pub first_of : List (List ℕ) → Option (List ℕ)
first_of [] = None
first_of (w ∷ ws) = Some w

-- what a byte from '0' to '9' writes
abbrev pub digit_of : ℕ → Result ℕ NumberFault
digit_of b = cond (nat_le 48 b && nat_le b 57) (Ok (b - 48)) (Err Wrong)

-- a number with one digit more at its end
abbrev pub with_digit : Result ℕ NumberFault → ℕ → Result ℕ NumberFault
with_digit (Ok d) n = Ok (n * 10 + d)
with_digit (Err e) n = Err e

-- the number that digits write after those of n
abbrev pub digits_after : Result ℕ NumberFault → List ℕ → Result ℕ NumberFault
digits_after n [] = n
digits_after (Ok n) (b ∷ bs) = digits_after (with_digit (digit_of b) n) bs
digits_after (Err e) (b ∷ bs) = Err e

-- a number: 1 to 4 digits
abbrev pub decimal : List ℕ → Result ℕ NumberFault
decimal w = cond (nat_le 1 (length w) && nat_le (length w) 4) (digits_after (Ok 0) w) (Err Wrong)

-- a number that must lie from low to high
abbrev pub between : ℕ → ℕ → Result ℕ NumberFault → Result ℕ NumberFault
between low high (Ok n) = cond (nat_le low n && nat_le n high) (Ok n) (Err Wrong)
between low high (Err e) = Err e

-- the number from low to high that a field writes
abbrev pub number_of : ℕ → ℕ → List ℕ → Result ℕ NumberFault
number_of low high w = between low high (decimal w)

-- the number that the first field writes
abbrev pub first_number : ℕ → ℕ → List (List ℕ) → Result ℕ NumberFault
first_number low high [] = Err Wrong
first_number low high (w ∷ ws) = number_of low high w

-- no field may be left
abbrev pub end_of : List (List ℕ) → Result (Unit {0}) NumberFault
end_of [] = Ok tt
end_of (w ∷ ws) = Err Wrong

-- two numbers, or the first fault of them
abbrev pub both : Result ℕ NumberFault → Result ℕ NumberFault → Result (ℕ × ℕ) NumberFault
both (Ok m) (Ok n) = Ok (m, n)
both (Ok m) (Err e) = Err e
both (Err e) r = Err e

-- two fields that write numbers from low, and no other field
abbrev pub numbers_of : ℕ → ℕ → ℕ → List (List ℕ) → Result (ℕ × ℕ) NumberFault
numbers_of low most_first most_second [] = Err Wrong
numbers_of low most_first most_second (a ∷ []) = Err Wrong
numbers_of low most_first most_second (a ∷ b ∷ []) = both (number_of low most_first a) (number_of low most_second b)
numbers_of low most_first most_second (a ∷ b ∷ w ∷ ws) = Err Wrong
