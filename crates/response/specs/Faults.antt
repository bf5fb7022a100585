-- What refuses a call without a message, and the paper's number of each.
-- Rules 7.1 to 7.6, 7.21 of docs/RULES.md.
use Rattle.std.specs.Prelude.{ℕ, Result, Ok, Err}
use Rattle.response.specs.declared.fault.Fault.{Fault}
use Rattle.response.specs.declared.fault.Fault.TheVariants.{SmallBuffer, BadSize, LongRequest, LateClock, Unsound, Unreadable, Malformed, AlreadyThere, NoRoom, Unknown, BackInTime}

-- its number
abbrev pub number_of : Fault → ℕ
number_of SmallBuffer = 1
number_of BadSize = 2
number_of LongRequest = 3
number_of LateClock = 4
number_of Unsound = 5
number_of Unreadable = 6
number_of Malformed = 7
number_of AlreadyThere = 8
number_of NoRoom = 9
number_of Unknown = 10
number_of BackInTime = 11

-- the result that a caller is told: 0 where there is no fault
abbrev pub told : {A : Type 0} → Result A Fault → ℕ
told (Ok x) = 0
told (Err f) = number_of f
