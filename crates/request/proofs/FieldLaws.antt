-- The laws of what the fields of a request say: a number is no larger than it may be, and the body no longer than what is there, nor
-- than the request.
use mathlib.Core.Path.{◌≡◌}
use mathlib.Core.List.{List, []}
use Prim.Native.Nat.{ℕ, ◌+◌, ◌<◌, ◌≤◌}
use native.Mathlib.Omega.{arith}
use lib.ListN.{length, length-take}
use Rattle.std.proofs.lemmas.Grind.{common_steps}
use Rattle.laws.proofs.Parts.{part_past, part_none}
use Rattle.text.specs.Number.{number_of, value_or}
use Rattle.text.proofs.RunLaws.{past_within}
use Rattle.request.specs.Fields.{there, content_length, body_length, body}
use Rattle.request.specs.declared.Head.{Head}

-- a number that is read is no larger than it may be
pub value_most : (most : ℕ) (s : List ℕ) → value_or 0 (number_of most s) ≤ most
unfolding number_of value_or
value_most most s = grind (arith, common_steps)

-- the body is no longer than what is there
pub body_there : (s : List ℕ) (h : Head) → body_length s h ≤ there s h
unfolding body_length content_length
body_there s h = grind (arith, value_most)

-- no more is there than the whole request
pub there_within : (s : List ℕ) (h : Head) → there s h ≤ length s
unfolding there
there_within s h = omega arith

-- nor is the body longer than that
pub body_within : (s : List ℕ) (h : Head) → body_length s h ≤ length s
body_within s h = omega (arith, body_there s h, there_within s h)

-- it ends within the request
pub body_ends : (s : List ℕ) (h : Head) → h.rest ≤ length s → h.rest + body_length s h ≤ length s
unfolding there
body_ends s h k = omega (arith, body_there s h)

-- where the empty line ends past the request, there is none
pub body_none : (s : List ℕ) (h : Head) → length s < h.rest → body s h ≡ []
unfolding body
body_none s h k = part_past s h.rest (h.rest + body_length s h) (omega arith)

-- what the functions that cut parts out of a request are proved with
pub ruleset field_parts = (length-take, part_none, past_within, body_there)
