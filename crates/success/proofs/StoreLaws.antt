-- How many places and how many bytes a record has after a success.
use mathlib.Core.Path.{◌≡◌, refl, ◌∙◌, ap}
use mathlib.Core.Bool.{Bool, true, false}
use mathlib.Core.List.{List, [], ◌∷◌, map}
use Prim.Native.Nat.{ℕ, suc, ◌*◌, ◌/◌}
use native.Mathlib.Omega.{arith}
use lib.Dec.{eqb}
use lib.ListN.{length, drop, set, replicate, length-append, length-take, length-replicate, length-set, length-map}
use borrow.Author.Tests.{eqb-true}
use Rattle.laws.specs.Choose.{pick}
use Rattle.laws.proofs.Tests.{and_right}
use Rattle.record.specs.Places.{Place, is_whole, free_place, places_in, places, slots_of}
use Rattle.success.specs.Store.{room, cleared}
use Rattle.success.specs.After.{freed, freed_at, freed_places, is_match, written_slot, ended_places, written_places, places_after, record_after, with_body, part_after}
use Rattle.record.specs.declared.Slot.{Slot}
use Rattle.record.specs.declared.Record.{Record}
use Rattle.success.specs.declared.Success.{Success}

-- the room of a body has 512 bytes
pub room_length : (n : ℕ) (bs : List ℕ) → length (room n bs) ≡ 512
unfolding room
room_length n bs = simp (length-take, length-append, length-replicate) (omega arith)

-- the 512 bytes of a place, whether it is occupied or not
pub place_length : (taken : Bool) (n : ℕ) (bs : List ℕ) → length (pick taken (room n bs) (replicate 512 0)) ≡ 512
place_length true n bs = room_length n bs
place_length false n bs = refl

-- each place has 512 bytes
pub cleared_length : (ps : List Place) (bs : List ℕ) → length (cleared ps bs) ≡ 512 * length ps
unfolding cleared
cleared_length [] bs = refl
cleared_length (p ∷ ps) bs =
    let first = place_length p.taken p.slot.length bs in
    let others = cleared_length ps (drop 512 bs) in
    length-append (pick p.taken (room p.slot.length bs) (replicate 512 0)) (cleared ps (drop 512 bs)) ∙ omega arith

-- there are as many places as slots
pub places_in_length : (m : ℕ) (ss : List Slot) → length (places_in m ss) ≡ length ss
unfolding places_in
places_in_length m [] = refl
places_in_length m (s ∷ ss) = ap suc (places_in_length (m / 2) ss)

-- and as many slots as places
pub slots_of_length : (ps : List Place) → length (slots_of ps) ≡ length ps
unfolding slots_of
slots_of_length [] = refl
slots_of_length (p ∷ ps) = ap suc (slots_of_length ps)

-- freeing takes no place away
pub freed_length : (clock m : ℕ) (ss : List Slot) → length (map (freed clock) (places_in m ss)) ≡ length ss
freed_length clock m ss = length-map (places_in m ss) (freed clock) ∙ places_in_length m ss

pub freed_at_length : (clock : ℕ) (r : Record) → length (freed_at clock r) ≡ length r.slots
unfolding freed_at places
freed_at_length clock r = freed_length clock r.map r.slots

pub freed_places_length : (x : Success) (r : Record) → length (freed_places x r) ≡ length r.slots
unfolding freed_places
freed_places_length x r = freed_at_length x.clock r

-- a success takes no place away and adds none
pub places_after_length : (x : Success) (r : Record) → length (places_after x r) ≡ length r.slots
unfolding places_after ended_places written_places
places_after_length x r = go (eqb x.granted 0) (is_match x)
  where
    fs : List Place
    fs = freed_places x r

    put : (k : ℕ) (p : Place) → length (set fs k p) ≡ length r.slots
    put k p = length-set fs k p ∙ freed_places_length x r

    go : (b m : Bool) → length (pick b (pick m (set fs x.slot free_place) fs) (written_places x r)) ≡ length r.slots
    go true true = put x.slot free_place
    go true false = freed_places_length x r
    go false m = put (written_slot x r) _

-- the part of a record with eight slots has 4,096 bytes after a success
pub part_after_length : (x : Success) (r : Record) (body bs : List ℕ) → length r.slots ≡ 8 → length (part_after x r body bs) ≡ 4096
unfolding part_after
part_after_length x r body bs e =
    cleared_length (places_after x r) (with_body x r body bs) ∙ rw (places_after_length x r, e)

-- a whole record has eight slots
pub whole_slots : (r : Record) → is_whole r ≡ true → length r.slots ≡ 8
unfolding is_whole
whole_slots r e = eqb-true (length r.slots) 8 (and_right (eqb (length r.address) 64) (eqb (length r.slots) 8) e)

-- a whole record is whole after a success
pub whole_after : (x : Success) (r : Record) → is_whole (record_after x r) ≡ is_whole r
unfolding is_whole record_after
whole_after x r = rw (slots_of_length (places_after x r), places_after_length x r)
