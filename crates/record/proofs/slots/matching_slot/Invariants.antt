-- While no slot matches, what is found is found from the next slot on, and the first that matches or the end gives it.
use mathlib.Core.Path.{◌≡◌}
use Rattle.record.proofs.SlotLaws.{places_from, found_from, matches}
use Rattle.record.proofs.slots.matching_slot.Given as goal

abbrev pub invariant-loop-i : goal.invariant-loop-i
invariant-loop-i l =
    found_from (matches l.clock l.event l.token) 0 (places_from l.initial.m 0 l.s-items) ≡ found_from (matches l.clock l.event l.token) l.i (places_from l.m l.i l.s-items)
