-- After i turns the first i slots are as they stand in the end, and what the rest becomes completes them.
use mathlib.Core.Path.{◌∙◌}
use mathlib.Core.List.{append-nil}
use Prim.Native.Nat.{◌≤◌}
use native.Mathlib.Omega.{arith}
use lib.ListN.{length, length-set, drop_of_length-le}
use lib.Seq.{take_all}
use Rattle.record.specs.Places.{places_in, places, slots_of}
use Rattle.success.specs.After.{freed_at}
use Rattle.success.proofs.FreedLaws.{slots_turn}
use Rattle.success.proofs.freed.freed_slots.Goals as goal

pub loop-s-preserved : goal.loop-s-preserved
loop-s-preserved c =
    let l = c.loop-s in
    (simp length-set l.invariant.0, slots_turn _ _ l.s-items l.s-index _ _ (omega arith) c.freed_slot.ensures ∙ l.invariant.1)

pub returns : goal.returns
unfolding freed_at places places_in slots_of
returns c =
    let l = c.loop-s in
    let h : length l.s-items ≤ l.s-index = omega arith in
    rw (take_all l.s-index l.s-items h, drop_of_length-le l.s-items h, append-nil) at l.invariant.1
