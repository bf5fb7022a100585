-- Without a body that is to be live the store stays; otherwise the slot found is the one written, and the body goes into its room.
use mathlib.Core.Path.{◌≡◌, ◌∙◌}
use Prim.Native.Nat.{◌<◌}
use borrow.Author.Rules.{rules}
use native.Mathlib.Omega.{arith}
use Rattle.success.specs.After.{written_slot}
use Rattle.success.proofs.SuccessLaws.{nothing_put, body_put, slot_there}
use Rattle.success.proofs.after.put_given.Goals as goal

pub returns-then-x-eq0 : goal.returns-then-x-eq0
returns-then-x-eq0 c = nothing_put _ _ _ _ _ c.then-x-eq0.either (omega arith)

pub unwrap-k-requires : goal.unwrap-k-requires
unwrap-k-requires c =
    let there = slot_there _ _ _ (search rules) c.live_map.ensures c.slot_to_write.ensures (c.requires.3 (omega arith) (omega arith)) in
    rw there

pub put_body-requires : goal.put_body-requires
put_body-requires c =
    let near : written_slot c.args.x c.args.r < 8 = c.requires.3 (omega arith) (omega arith) in
    let there = slot_there _ _ _ (search rules) c.live_map.ensures c.slot_to_write.ensures near in
    let k : c.unwrap-k.result ≡ written_slot c.args.x c.args.r = cc in
    (omega arith, omega arith, omega (arith, c.from.ensures), omega arith)

pub returns : goal.returns
returns c =
    let near : written_slot c.args.x c.args.r < 8 = c.requires.3 (omega arith) (omega arith) in
    let there = slot_there _ _ _ (search rules) c.live_map.ensures c.slot_to_write.ensures near in
    let k : c.unwrap-k.result ≡ written_slot c.args.x c.args.r = cc in
    body_put _ _ _ _ _ _ _ (omega arith) (omega arith) (c.from.ensures ∙ k) c.put_body.ensures
