-- The newest found so far, with the slots that are left, gives the newest of all.
use mathlib.Core.Path.{◌≡◌}
use Rattle.record.specs.Places.{is_of}
use Rattle.record.proofs.SlotLaws.{places_from}
use Rattle.record.proofs.NewestLaws.{newest_with, Before}
use Rattle.record.proofs.slots.newest_slot.Given as goal

abbrev pub invariant-loop-i : goal.invariant-loop-i
invariant-loop-i l =
    Before l.best l.i
    × (newest_with (is_of l.clock l.event) l.initial.best 0 (places_from l.initial.m 0 l.s-items) ≡ newest_with (is_of l.clock l.event) l.best l.i (places_from l.m l.i l.s-items))
