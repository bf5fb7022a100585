-- What the type of a record says of a value that a function holds: its arrays have their lengths, and its numbers fit.
use mathlib.Core.Path.{◌≡◌}
use Prim.Native.Nat.{◌<◌}
use lib.ListN.{length}
use Rattle.record.specs.declared.Record.{Record}

-- the facts that a function has of each record passed to it
abbrev pub Held : Record → Type 0
Held r = (length r.slots ≡ 8) × (length r.address ≡ 64) × (r.map < 256) × (r.spent < 4294967296)

-- it has eight slots
pub held_slots : (r : Record) → Held r → length r.slots ≡ 8
held_slots r h = h.0

-- its address has 64 bytes
pub held_address : (r : Record) → Held r → length r.address ≡ 64
held_address r h = h.1

-- its map is below 256
pub held_map : (r : Record) → Held r → r.map < 256
held_map r h = h.2

-- the tags spent are a number of 32 bits
pub held_spent : (r : Record) → Held r → r.spent < 4294967296
held_spent r h = h.3
