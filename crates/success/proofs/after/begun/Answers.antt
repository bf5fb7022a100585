-- Where no slot is free none is written; otherwise the one found is the slot written, and it becomes occupied.
use borrow.Author.Rules.{rules}
use native.Mathlib.Omega.{arith}
use mathlib.Core.Path.{◌≡◌}
use Prim.Native.Nat.{◌<◌}
use Rattle.laws.proofs.Some.{told_is, told_below, untold}
use Rattle.success.specs.After.{written_slot}
use Rattle.success.proofs.SuccessLaws.{slot_found, begun_none, begun_one}
use Rattle.success.proofs.after.begun.Goals as goal

pub returns-in_default : goal.returns-in_default
returns-in_default c =
    let p = c.requires in
    begun_none _ _ _ _ (search rules) p.3 p.4 _ c.with_slots.ensures p.2 (untold 8 _ (slot_found _ _ _ (search rules) p.3 c.in_default.ensures))

pub returns : goal.returns
returns c =
    let p = c.requires in
    let found = slot_found _ _ _ (search rules) p.3 c.in-Some.ensures in
    let k : c.in-Some.k ≡ written_slot c.args.x c.args.r = told_is 8 _ found in
    let near : c.in-Some.k < 8 = omega (arith, told_below 8 _ found) in
    let i : c.from-i.result ≡ c.in-Some.k = c.from-i.ensures in
    begun_one _ _ _ _ (search rules) p.3 p.4 _ _ _ _ _ (rw i at c.with_slots-2.ensures) p.2 k near c.with_place.ensures (rw i at c.written_slot.ensures)
