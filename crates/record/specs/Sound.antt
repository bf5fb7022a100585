-- Soundness of one record and of all lent ones.
-- Rules 2.6, 4.12 to 4.25 of docs/RULES.md.
use Rattle.std.specs.Prelude.{ℕ, ◌+◌, Bool, ◌&&◌, ◌||◌, not, List, eqb, leb}
use Rattle.laws.specs.Lists.{every, pairwise, those}
use Rattle.text.specs.Class.{from_to}
use Rattle.tag.specs.Given.{is_given}
use Rattle.record.specs.Packages.{package_at, is_listed}
use Rattle.record.specs.Places.{is_in_use, occupied}
use Rattle.record.specs.Address.{address_of, has_address, same_address}
use Rattle.record.specs.declared.Slot.{Slot}
use Rattle.record.specs.declared.Record.{Record}

-- the clock's limit
abbrev pub latest_clock : ℕ
latest_clock = 1000000000000

-- an occupied slot has a listed package, a body of at most 512, an end at most the latest clock plus that package's most,
-- a body number from 1 to spent, and a tag that some n from 1 to spent gives
unfoldable pub is_sound_slot : Record → Slot → Bool
is_sound_slot r s =
    is_listed s.event && (leb s.length 512 && (leb s.end (r.clock + (package_at s.event).most)
    && (from_to 1 r.spent s.edition && is_given r.start r.spent s.tag)))

unfoldable pub tags_differ : Slot → Slot → Bool
tags_differ s t = not (eqb s.tag t.tag)

unfoldable pub numbers_differ : Slot → Slot → Bool
numbers_differ s t = not (eqb s.edition t.edition)

-- tags differ between occupied slots, and so do body numbers
unfoldable pub slots_differ : List Slot → Bool
slots_differ ss = pairwise tags_differ ss && pairwise numbers_differ ss

-- a record by itself is sound: 1 or 0 says whether it is in use, and one that is not is sound
unfoldable pub is_sound : Record → Bool
is_sound r =
    leb r.used 1
    && (not (is_in_use r)
    || (has_address r && (leb r.clock latest_clock && (every (is_sound_slot r) (occupied r) && slots_differ (occupied r)))))

unfoldable pub addresses_differ : Record → Record → Bool
addresses_differ r t = not (same_address (address_of r) (address_of t))

-- every lent record is sound, and the address of each in use differs from each other one in use
unfoldable pub all_sound : List Record → Bool
all_sound rs = every is_sound rs && pairwise addresses_differ (those is_in_use rs)
