-- A record's eight places: each slot with whether the map has it occupied.
-- Rules 4.1, 4.2, 4.5, 4.7, 4.8, 7.13, 7.19, 7.26, 7.27, 10.4 of docs/RULES.md.
use Rattle.std.specs.Prelude.{ℕ, ◌+◌, ◌*◌, ◌/◌, ◌%◌, Bool, false, ◌&&◌, not, List, [], ◌∷◌, eqb, ltb, leb, length, replicate}
use Rattle.laws.specs.Choose.{pick}
use Rattle.laws.specs.Lists.{those, place_of, every}
use Rattle.tag.specs.Written.{is_tag_text}
use Rattle.record.specs.declared.Slot.{Slot}
use Rattle.record.specs.declared.Record.{Record}

-- a slot, and whether it is occupied
pub record Place : Type 0 where
  pub taken : Bool
  pub slot : Slot

-- a slot that is freed: its fields are zero
abbrev pub zero_slot : Slot
zero_slot = record { event = 0; tag = 0; end = 0; length = 0; edition = 0 }

abbrev pub free_place : Place
free_place = record { taken = false; slot = zero_slot }

-- an emptied record is all zero
abbrev pub empty_record : Record
empty_record =
    record { used = 0; address = replicate 64 0; start = 0; spent = 0; clock = 0; map = 0; slots = replicate 8 zero_slot }

-- a record is in use: 1 says so
unfoldable pub is_in_use : Record → Bool
is_in_use r = eqb r.used 1

-- what the type of a record says of its arrays: 64 address bytes and eight slots
unfoldable pub is_whole : Record → Bool
is_whole r = eqb (length r.address) 64 && eqb (length r.slots) 8

-- slots with the map of which are occupied, the lowest bit for the first
unfoldable pub places_in : ℕ → List Slot → List Place
places_in m [] = []
places_in m (s ∷ ss) = record { taken = eqb (m % 2) 1; slot = s } ∷ places_in (m / 2) ss

-- the places of a record
unfoldable pub places : Record → List Place
places r = places_in r.map r.slots

-- the map of which places are occupied
unfoldable pub map_of : List Place → ℕ
map_of [] = 0
map_of (p ∷ ps) = pick p.taken 1 0 + 2 * map_of ps

-- the slots of the places
unfoldable pub slots_of : List Place → List Slot
slots_of [] = []
slots_of (p ∷ ps) = p.slot ∷ slots_of ps

-- the occupied slots, in their order
unfoldable pub occupied : Record → List Slot
occupied r = slots_of (those (λ p. p.taken) (places r))

-- a publication is live while the clock is below its end
unfoldable pub is_live : ℕ → Place → Bool
is_live clock p = p.taken && ltb clock p.slot.end

-- the live publications of an address, over all packages
unfoldable pub live : ℕ → Record → List Slot
live clock r = slots_of (those (is_live clock) (places r))

-- the smaller of two numbers
unfoldable pub smaller : ℕ → ℕ → ℕ
smaller a b = pick (ltb a b) a b

-- the least of a number and the ends of some slots
unfoldable pub least_from : ℕ → List Slot → ℕ
least_from least [] = least
least_from least (s ∷ ss) = least_from (smaller least s.end) ss

-- the least end among some slots; 0 where there is none
unfoldable pub least_end : List Slot → ℕ
least_end [] = 0
least_end (s ∷ ss) = least_from s.end ss

-- the slot of the live publication of that package that has the presented tag; 8 where there is none
unfoldable pub matching : ℕ → ℕ → List ℕ → Record → ℕ
matching clock event token r =
    place_of (λ p. is_live clock p && (eqb p.slot.event event && is_tag_text token p.slot.tag)) (places r)

-- the lowest free place; the number of places where all are occupied
unfoldable pub lowest_free : List Place → ℕ
lowest_free ps = place_of (λ p. not p.taken) ps

-- a live publication of that package
unfoldable pub is_of : ℕ → ℕ → Place → Bool
is_of clock event p = is_live clock p && eqb p.slot.event event

-- the slot of that package's live publication with the highest body number; 8 where none is live
unfoldable pub newest : ℕ → ℕ → Record → ℕ
newest clock event r =
    let all = those (is_of clock event) (places r) in
    place_of (λ p. is_of clock event p && every (λ o. leb o.slot.edition p.slot.edition) all) (places r)
