-- The least end found so far, with the ends that are left, is the least end of all.
use mathlib.Core.Path.{◌≡◌}
use Rattle.record.proofs.SlotLaws.{places_from, least_with}
use Rattle.record.proofs.slots.least_end.Given as goal

abbrev pub invariant-loop-s : goal.invariant-loop-s
invariant-loop-s l = least_with l.clock 0 (places_from l.initial.m 0 l.s-items) ≡ least_with l.clock l.least (places_from l.m l.s-index l.s-items)
