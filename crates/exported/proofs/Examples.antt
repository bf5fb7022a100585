-- Worked examples: the numbers of each case. Each by computation.
use mathlib.Core.Path.{◌≡◌, refl}
use Rattle.response.specs.Outcomes.{result_of, status_of}
use Rattle.response.specs.declared.Field.TheVariants.{MinExpires, Accept, RetryAfter}
use Rattle.response.specs.declared.Outcome.TheVariants.{Silent, Refused, Granted}
use Rattle.table.specs.declared.Shown.TheVariants.{Stored, Default, Front}
use Rattle.exported.specs.Numbers.{tag_number, field_seconds, seconds_of, handled_numbers, shown_number, position_of, length_of, state_numbers}

-- no message: the number is the result, and there is no status
silent : handled_numbers (record { outcome = Silent 5; length = 0 }) ≡ record { length = 0; seconds = 0; tag = 0; status = 0; result = 5 }
unfolding handled_numbers seconds_of tag_number status_of result_of
silent = refl

-- Min-Expires has its seconds
too_brief : handled_numbers (record { outcome = Refused 423 (MinExpires 60); length = 180 })
    ≡ record { length = 180; seconds = 60; tag = 0; status = 423; result = 0 }
unfolding handled_numbers seconds_of field_seconds tag_number status_of result_of
too_brief = refl

-- Retry-After has its seconds
full : handled_numbers (record { outcome = Refused 503 (RetryAfter 7); length = 190 })
    ≡ record { length = 190; seconds = 7; tag = 0; status = 503; result = 0 }
unfolding handled_numbers seconds_of field_seconds tag_number status_of result_of
full = refl

-- the package of Accept is no number of seconds
other_type : handled_numbers (record { outcome = Refused 415 (Accept 3); length = 200 })
    ≡ record { length = 200; seconds = 0; tag = 0; status = 415; result = 0 }
unfolding handled_numbers seconds_of field_seconds tag_number status_of result_of
other_type = refl

-- a success has its tag and its time
granted : handled_numbers (record { outcome = Granted 2654435769 3600; length = 210 })
    ≡ record { length = 210; seconds = 3600; tag = 2654435769; status = 200; result = 0 }
unfolding handled_numbers seconds_of tag_number status_of result_of
granted = refl

-- a part of the store
stored : state_numbers (record { result = 0; shown = Stored 512 40 }) ≡ record { position = 512; length = 40; shown = 1; result = 0 }
unfolding state_numbers position_of length_of shown_number
stored = refl

-- the whole default
whole_default : state_numbers (record { result = 0; shown = Default }) ≡ record { position = 0; length = 0; shown = 2; result = 0 }
unfolding state_numbers position_of length_of shown_number
whole_default = refl

-- its empty front, where the result says why
empty_front : state_numbers (record { result = 6; shown = Front }) ≡ record { position = 0; length = 0; shown = 0; result = 6 }
unfolding state_numbers position_of length_of shown_number
empty_front = refl
