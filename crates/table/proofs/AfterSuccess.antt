-- What a success leaves of the record of its address and of the store, as the paper's paragraph "A success" has it.
use mathlib.Core.Path.{◌≡◌}
use mathlib.Core.Bool.{true, false}
use mathlib.Core.List.{List}
use mathlib.Core.Logic.{◌⊎◌}
use Prim.Native.Nat.{ℕ, ◌+◌, ◌*◌, ◌<◌, ◌≤◌}
use lib.ListN.{length, get_or}
use Rattle.laws.specs.Choose.{pick}
use Rattle.laws.specs.Lists.{part}
use Rattle.tag.specs.Tag.{tag_of}
use Rattle.request.specs.Head.{head_of}
use Rattle.request.specs.Fields.{has_match, body_length, body}
use Rattle.request.specs.declared.Head.{Head}
use Rattle.record.specs.Places.{Place, free_place, places, map_of, occupied, live, lowest_free}
use Rattle.success.specs.After.{freed_at}
use Rattle.record.specs.declared.Record.{Record}
use Rattle.record.proofs.Places.{place_at}
use Rattle.publish.specs.Refusals.{event_of, granted, presented}
use Rattle.response.specs.declared.Outcome.{Outcome}
use Rattle.response.specs.declared.Outcome.TheVariants.{Granted}
use Rattle.table.specs.Handle.{Input}

module _ (x : Input) where
  -- what the request's head says
  abbrev pub head : Head
  head = head_of x.request

  -- the time granted
  abbrev pub time : ℕ
  time = granted x.request head

  -- the body given
  abbrev pub given : List ℕ
  given = body x.request head

  -- how long it is; 0 where none is given
  abbrev pub size : ℕ
  size = body_length x.request head

  module _ (i : ℕ) (r : Record) where
    -- with SIP-If-Match the same slot is kept; otherwise the lowest free slot is taken, once those are freed whose end has come
    abbrev pub slot : ℕ
    slot = pick (has_match head) (presented r x.clock x.request head) (lowest_free (freed_at x.clock r))

    -- a place that is not written: another one than that slot, or any where an initial request takes none
    abbrev pub Other : ℕ → Type 0
    Other k = (k ≡ slot → ⊥) ⊎ ((time ≡ 0) × (has_match head ≡ false))

    -- what is written: the request's package, the tag given, as end clock plus granted, and that body length and body number
    abbrev pub holding : ℕ → ℕ → Place
    holding length edition =
        record {
          taken = true;
          slot = record {
            event = event_of x.request head;
            tag = tag_of r.start (r.spent + 1);
            end = x.clock + time;
            length = length;
            edition = edition;
          };
        }

    -- the body of slot k stands first in the 512 store bytes from here on
    abbrev pub from : ℕ → ℕ
    from k = 4096 * i + 512 * k

    -- what a success leaves: record r at place i becomes r', the store becomes store', and the outcome is o
    pub record AfterSuccess (r' : Record) (store store' : List ℕ) (o : Outcome) : Type 0 where
      -- it gives the tag of its success number, and the time granted
      pub gives : o ≡ Granted (tag_of r.start (r.spent + 1)) time
      -- it spends one tag
      pub spends_one : r'.spent ≡ r.spent + 1
      -- it sets the latest clock
      pub sets_clock : r'.clock ≡ x.clock
      -- the record is in use as before, for the same address, with the same start
      pub same : (r'.used ≡ r.used) × (r'.address ≡ r.address) × (r'.start ≡ r.start)
      -- it has eight slots, and the map of those that are occupied
      pub eight : (length r'.slots ≡ 8) × (r'.map ≡ map_of (places r'))
      -- the occupied slots are exactly the live ones
      pub live_only : live x.clock r' ≡ occupied r'
      -- a slot whose end has come is freed
      pub frees : (k : ℕ) → Other k → (place_at (places r) k).taken ≡ true → (place_at (places r) k).slot.end ≤ x.clock
          → place_at (places r') k ≡ free_place
      -- any other place that is not written stays as it was
      pub stays : (k : ℕ) → Other k → ((place_at (places r) k).taken ≡ false) ⊎ (x.clock < (place_at (places r) k).slot.end)
          → place_at (places r') k ≡ place_at (places r) k
      -- the slot that is written is one of the eight
      pub there : 0 < time → slot < 8
      -- a body, where given, replaces the old one and sets the body number
      pub writes : 0 < time → 0 < size → place_at (places r') slot ≡ holding size (r.spent + 1)
      -- where none is given, body length and body number stay
      pub renews : 0 < time → size ≡ 0
          → place_at (places r') slot ≡ holding (place_at (places r) slot).slot.length (place_at (places r) slot).slot.edition
      -- granted 0: a matched slot is freed
      pub ends : time ≡ 0 → has_match head ≡ true → place_at (places r') slot ≡ free_place
      -- the store bytes at the slot's place are the body given, byte for byte
      pub stores : 0 < time → 0 < size → part store' (from slot) (from slot + length given) ≡ given
      -- which is as long as the slot says
      pub long : length given ≡ size
      -- every byte of any other live body, and of one that is not replaced, stays as it was
      pub bodies_stay : (k j : ℕ) → (k ≡ slot → ⊥) ⊎ (size ≡ 0) → (place_at (places r') k).taken ≡ true → j < (place_at (places r') k).slot.length
          → j < 512 → get_or store' (from k + j) 0 ≡ get_or store (from k + j) 0
      -- every byte of that address's store outside a live body is zero
      pub zeros : (k j : ℕ) → k < 8 → j < 512 → ((place_at (places r') k).taken ≡ false) ⊎ ((place_at (places r') k).slot.length ≤ j)
          → get_or store' (from k + j) 0 ≡ 0
