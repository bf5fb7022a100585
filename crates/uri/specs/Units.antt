-- One step over a text with escapes: what stands at a position for one byte of the normal text, and where the next begins; and the normal
-- text that an iterator has left.
use Rattle.std.specs.Prelude.{ℕ, ◌+◌, Bool, ◌&&◌, List, eqb, ltb, length}
use Rattle.laws.specs.Choose.{pick}
use Rattle.laws.specs.Lists.{byte_at}
use Rattle.uri.specs.Escapes.{escaped_byte, normal}
use Rattle.uri.specs.declared.escapes.Unit.{Unit}
use Rattle.uri.specs.declared.escapes.Units.{Units}

-- an escape begins at the position: a % with two bytes behind it
unfoldable pub is_escape : List ℕ → ℕ → Bool
is_escape s i = eqb (byte_at s i) 37 && ltb (i + 2) (length s)

-- the unit at a position
unfoldable pub unit_at : List ℕ → ℕ → Unit
unit_at s i =
    let escape : Unit = record { value = escaped_byte (byte_at s (i + 1)) (byte_at s (i + 2)); next = i + 3 } in
    let bare : Unit = record { value = byte_at s i; next = i + 1 } in
    pick (is_escape s i) escape bare

-- what stands in the text that is left
abbrev pub units_left : Units → List ℕ
units_left u = normal u.rest.now
