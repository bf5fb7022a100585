-- How long the texts of a line are at most.
use Prim.Native.Nat.{ℕ, ◌≤◌}
use native.Mathlib.Omega.{arith}
use lib.ListN.{length, length-append}
use Rattle.laws.specs.Bytes.{bytes}
use Rattle.text.specs.Digits.{decimal_of}
use Rattle.text.proofs.DigitLaws.{decimal_twenty, eight_length}
use Rattle.tag.specs.Written.{tag_text}
use Rattle.response.specs.declared.Field.{Field}
use Rattle.response.specs.declared.Field.TheVariants.{Nothing, Allow, AllowEvents, MinExpires, Accept, RetryAfter}
use Rattle.response.specs.declared.Outcome.{Outcome}
use Rattle.response.specs.declared.Outcome.TheVariants.{Silent, Refused, Granted}
use Rattle.table.specs.declared.Shown.{Shown as Lying}
use Rattle.table.specs.declared.Shown.TheVariants.{Stored, Default, Front}
use Rattle.listing.specs.Listing.{field_text, outcome_text}
use Rattle.listing.specs.Witness.{place_text, read_text}
use Rattle.frames.specs.Shown.{shown_text}
use Rattle.frames.specs.declared.shown.Shown.{Shown}
use Rattle.frames.specs.declared.shown.Shown.TheVariants.{Added, Answered, Read, Bad}

-- a number, or -, is at most 20 bytes
field_most : (f : Field) → length (field_text f) ≤ 20
unfolding field_text
field_most Nothing = omega arith
field_most Allow = omega arith
field_most AllowEvents = omega arith
field_most (MinExpires least) = decimal_twenty least
field_most (Accept event) = omega arith
field_most (RetryAfter seconds) = decimal_twenty seconds

-- what an outcome says is at most 43
outcome_most : (o : Outcome) → length (outcome_text o) ≤ 43
unfolding outcome_text tag_text
outcome_most (Silent n) = omega (arith, length-append (bytes "none ") (decimal_of n), decimal_twenty n)
outcome_most (Refused status field) = simp length-append (omega (arith, decimal_twenty status, field_most field))
outcome_most (Granted tag time) = simp length-append (omega (arith, eight_length tag, decimal_twenty time))

-- where what is shown lies is at most 47
place_most : (n : ℕ) (s : Lying) → length (place_text n s) ≤ 47
unfolding place_text
place_most n (Stored from size) = simp length-append (omega (arith, decimal_twenty from, decimal_twenty size))
place_most n Default = omega (arith, length-append (bytes "default ") (decimal_of n), decimal_twenty n)
place_most n Front = omega arith

-- what is shown of a line is at most 81
pub shown_most : (s : Shown) → length (shown_text s) ≤ 81
unfolding shown_text read_text
shown_most (Added n) = omega (arith, length-append (bytes "add ") (decimal_of n), decimal_twenty n)
shown_most (Answered o) = omega (arith, outcome_most o)
shown_most (Read s n) = simp length-append (omega (arith, decimal_twenty s.result, place_most n s.shown))
shown_most Bad = omega arith
