-- After i turns the first i slots are as they stand in the end, and what the rest becomes completes them.
use mathlib.Core.Path.{◌≡◌}
use mathlib.Core.List.{◌++◌}
use lib.ListN.{length, take, drop}
use Rattle.record.specs.Places.{slots_of}
use Rattle.success.proofs.FreedLaws.{freed_of}
use Rattle.success.proofs.freed.freed_slots.Given as goal

abbrev pub invariant-loop-s : goal.invariant-loop-s
invariant-loop-s l =
    (length l.s-items ≡ 8) × (take l.s-index l.s-items ++ slots_of (freed_of l.clock l.m (drop l.s-index l.s-items)) ≡ slots_of (freed_of l.clock l.initial.m l.initial.s-items))
