-- Clearing the rooms from slot k on completes what is to be cleared, and each turn clears one room.
use mathlib.Core.Path.{◌≡◌}
use Prim.Native.Nat.{◌+◌, ◌*◌}
use lib.ListN.{length, drop}
use Rattle.record.specs.Places.{places_in}
use Rattle.success.proofs.ClearLaws.{cleared_from}
use Rattle.success.proofs.store.clear_part.Given as goal

abbrev pub invariant-loop-k : goal.invariant-loop-k
invariant-loop-k l = (length l.store ≡ length l.initial.store)
    × (cleared_from l.store (4096 * l.i + 512 * l.k) (4096 * l.i + 4096) (places_in l.m (drop l.k l.s-items))
    ≡ cleared_from l.initial.store (4096 * l.i) (4096 * l.i + 4096) (places_in l.initial.m l.s-items))
