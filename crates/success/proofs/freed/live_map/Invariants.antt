-- Walking from the last slot to the first, the map of the places passed is one bit more and twice what it was.
use mathlib.Core.Path.{◌≡◌}
use lib.ListN.{drop}
use Rattle.record.specs.Places.{map_of}
use Rattle.success.proofs.FreedLaws.{freed_of}
use Rattle.success.proofs.freed.live_map.Given as goal

abbrev pub invariant-loop-i : goal.invariant-loop-i
invariant-loop-i l = l.out ≡ map_of (drop l.i (freed_of l.clock l.r.map l.r.slots))
