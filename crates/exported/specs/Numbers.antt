-- What a call comes back with, in the paper's numbers: one definition for each number, a line for each case.
-- Rule 1.6 of docs/RULES.md.
use Rattle.std.specs.Prelude.{ℕ}
use Rattle.response.specs.Outcomes.{result_of, status_of}
use Rattle.response.specs.declared.Field.{Field}
use Rattle.response.specs.declared.Field.TheVariants.{Nothing, Allow, AllowEvents, MinExpires, Accept, RetryAfter}
use Rattle.response.specs.declared.Outcome.{Outcome}
use Rattle.response.specs.declared.Outcome.TheVariants.{Silent, Refused, Granted}
use Rattle.table.specs.declared.Handled.{Handled}
use Rattle.table.specs.declared.Shown.{Shown}
use Rattle.table.specs.declared.Shown.TheVariants.{Stored, Default, Front}
use Rattle.table.specs.declared.State.{State}
use Rattle.exported.specs.declared.numbers.HandledNumbers.{HandledNumbers}
use Rattle.exported.specs.declared.numbers.StateNumbers.{StateNumbers}

-- the tag given; 0 where none is
unfoldable pub tag_number : Outcome → ℕ
tag_number (Silent n) = 0
tag_number (Refused status field) = 0
tag_number (Granted tag time) = tag

-- the seconds of a field, Min-Expires or Retry-After; 0 where it says none
unfoldable pub field_seconds : Field → ℕ
field_seconds Nothing = 0
field_seconds Allow = 0
field_seconds AllowEvents = 0
field_seconds (MinExpires least) = least
field_seconds (Accept event) = 0
field_seconds (RetryAfter seconds) = seconds

-- the time granted, or the seconds of the refusal's field
unfoldable pub seconds_of : Outcome → ℕ
seconds_of (Silent n) = 0
seconds_of (Refused status field) = field_seconds field
seconds_of (Granted tag time) = time

-- a handled request: result and status are the paper's
unfoldable pub handled_numbers : Handled → HandledNumbers
handled_numbers h =
    record {
      length = h.length;
      seconds = seconds_of h.outcome;
      tag = tag_number h.outcome;
      status = status_of h.outcome;
      result = result_of h.outcome;
    }

-- which is shown: 1 a part of the store, 2 the whole default, 0 the default's empty front
unfoldable pub shown_number : Shown → ℕ
shown_number (Stored position length) = 1
shown_number Default = 2
shown_number Front = 0

-- where the part of the store begins; 0 where none is shown
unfoldable pub position_of : Shown → ℕ
position_of (Stored position length) = position
position_of Default = 0
position_of Front = 0

-- the length of the part of the store; 0 where none is shown
unfoldable pub length_of : Shown → ℕ
length_of (Stored position length) = length
length_of Default = 0
length_of Front = 0

-- state that was read
unfoldable pub state_numbers : State → StateNumbers
state_numbers s =
    record { position = position_of s.shown; length = length_of s.shown; shown = shown_number s.shown; result = s.result }
