-- What a success does to the record of its address, and to its 4,096 bytes of the store.
-- Rules 4.9, 8.1 to 8.5, 8.7 of docs/RULES.md.
use Rattle.std.specs.Prelude.{ℕ, ◌+◌, Bool, true, ◌&&◌, List, map, eqb, ltb, leb, get_or, set}
use Rattle.laws.specs.Choose.{pick}
use Rattle.laws.specs.Lists.{put_at}
use Rattle.tag.specs.Tag.{tag_of}
use Rattle.record.specs.Places.{Place, free_place, places, map_of, slots_of, lowest_free}
use Rattle.success.specs.Store.{room_at, cleared}
use Rattle.record.specs.declared.Slot.{Slot}
use Rattle.record.specs.declared.Record.{Record}
use Rattle.success.specs.declared.Success.{Success}

-- a success spends one tag: its number is the spent count after it
unfoldable pub success_number : Record → ℕ
success_number r = r.spent + 1

-- the tag that a success gives
unfoldable pub given_tag : Record → ℕ
given_tag r = tag_of r.start (success_number r)

-- a slot whose end has come is freed
unfoldable pub freed : ℕ → Place → Place
freed clock p = pick (p.taken && leb p.slot.end clock) free_place p

-- the places with those freed whose end has come
unfoldable pub freed_at : ℕ → Record → List Place
freed_at clock r = map (freed clock) (places r)

unfoldable pub freed_places : Success → Record → List Place
freed_places x r = freed_at x.clock r

-- a tag was presented, and matched
unfoldable pub is_match : Success → Bool
is_match x = ltb x.slot 8

-- a body was given
unfoldable pub has_body : Success → Bool
has_body x = ltb 0 x.length

-- the slot written: with SIP-If-Match the same slot is kept, otherwise the lowest free one is taken
unfoldable pub written_slot : Success → Record → ℕ
written_slot x r = pick (is_match x) x.slot (lowest_free (freed_places x r))

-- what is written to it: the end is clock plus granted; a body, where given, sets length and body number
unfoldable pub written : Success → Record → Slot → Slot
written x r old =
    record {
      event = x.event;
      tag = given_tag r;
      end = x.clock + x.granted;
      length = pick (has_body x) x.length old.length;
      edition = pick (has_body x) (success_number r) old.edition;
    }

-- granted 0 leaves nothing live: a matched slot is freed, an initial one takes none
unfoldable pub ended_places : Success → Record → List Place
ended_places x r = pick (is_match x) (set (freed_places x r) x.slot free_place) (freed_places x r)

-- the slot is occupied, with what is written to it
unfoldable pub written_places : Success → Record → List Place
written_places x r =
    let k = written_slot x r in
    let old = get_or (freed_places x r) k free_place in
    set (freed_places x r) k (record { taken = true; slot = written x r old.slot })

-- the places after a success
unfoldable pub places_after : Success → Record → List Place
places_after x r = pick (eqb x.granted 0) (ended_places x r) (written_places x r)

-- the record after a success: one tag spent, the latest clock set, run-out slots freed, then the writing
unfoldable pub record_after : Success → Record → Record
record_after x r =
    record {
      used = r.used;
      address = r.address;
      start = r.start;
      spent = success_number r;
      clock = x.clock;
      map = map_of (places_after x r);
      slots = slots_of (places_after x r);
    }

-- the body given, put into its room
unfoldable pub with_body : Success → Record → List ℕ → List ℕ → List ℕ
with_body x r body bs = pick (has_body x && ltb 0 x.granted) (put_at bs (room_at (written_slot x r)) body) bs

-- the part after a success: every byte outside a live body is zero
unfoldable pub part_after : Success → Record → List ℕ → List ℕ → List ℕ
part_after x r body bs = cleared (places_after x r) (with_body x r body bs)
