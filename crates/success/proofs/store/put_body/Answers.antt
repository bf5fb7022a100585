-- Bytes put at the room's place in the store are the part with them put at the room's place in the part.
use mathlib.Core.Path.{sym, ◌∙◌}
use Prim.Native.Nat.{◌+◌, ◌*◌}
use native.Mathlib.Omega.{arith}
use Rattle.success.specs.Store.{room_at, part_at, part_of, with_part}
use Rattle.laws.proofs.Puts.{put_into}
use Rattle.success.proofs.store.put_body.Goals as goal

pub returns : goal.returns
unfolding with_part part_of part_at room_at
returns c =
    let a = c.args in
    c.put.ensures.holds ∙ sym (put_into a.store.now (4096 * a.i) (4096 * a.i + 4096) (512 * a.k) a.body.now (omega arith) (omega arith))
