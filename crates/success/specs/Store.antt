-- Where bodies lie in the store, and a record's part of it with everything outside live bodies zero.
-- Rules 4.6, 8.6 of docs/RULES.md.
use Rattle.std.specs.Prelude.{ℕ, ◌+◌, ◌*◌, List, [], ◌∷◌, ◌++◌, take, drop, replicate}
use Rattle.laws.specs.Choose.{pick}
use Rattle.laws.specs.Lists.{part, put_at}
use Rattle.record.specs.Places.{Place}

-- the body of slot k stands first in the 512 bytes from here on, in the part of its record
unfoldable pub room_at : ℕ → ℕ
room_at k = 512 * k

-- the part of record r begins here in the store
unfoldable pub part_at : ℕ → ℕ
part_at r = 4096 * r

-- the 4,096 store bytes of record r
unfoldable pub part_of : ℕ → List ℕ → List ℕ
part_of r store = part store (part_at r) (part_at r + 4096)

-- the store with that part put in for record r
unfoldable pub with_part : ℕ → List ℕ → List ℕ → List ℕ
with_part r bs store = put_at store (part_at r) bs

-- the 512 bytes of a body of n bytes: the body, and zero behind it
unfoldable pub room : ℕ → List ℕ → List ℕ
room n bs = take 512 (take n bs ++ replicate 512 0)

-- the rooms of the places, one after the other: every byte outside an occupied slot's body is zero
unfoldable pub cleared : List Place → List ℕ → List ℕ
cleared [] bs = []
cleared (p ∷ ps) bs = pick p.taken (room p.slot.length bs) (replicate 512 0) ++ cleared ps (drop 512 bs)
