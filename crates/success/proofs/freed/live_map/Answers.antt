-- Walking from the last slot to the first, the map of the places passed is one bit more and twice what it was.
use borrow.Author.Rules.{rules}
use mathlib.Core.Path.{◌≡◌}
use native.Mathlib.Omega.{arith}
use Rattle.record.specs.Places.{places}
use Rattle.success.specs.After.{freed_at}
use Rattle.success.proofs.FreedLaws.{map_none, map_turn}
use Rattle.success.proofs.freed.live_map.Goals as goal

pub loop-i-init : goal.loop-i-init
loop-i-init c = map_none _ _ _ (search rules)

pub overflow_mul-out : goal.overflow_mul-out
overflow_mul-out c =
    let l = c.loop-i in
    let t = map_turn _ _ _ _ _ _ _ (search rules) (omega arith) (omega arith) l.invariant c.live_bit.ensures in
    record { fits = omega (arith, t.fits) }

pub overflow_add-out : goal.overflow_add-out
overflow_add-out c =
    let l = c.loop-i in
    let t = map_turn _ _ _ _ _ _ _ (search rules) (omega arith) (omega arith) l.invariant c.live_bit.ensures in
    record { fits = omega (arith, t.fits) }

pub loop-i-preserved : goal.loop-i-preserved
loop-i-preserved c =
    let l = c.loop-i in
    (map_turn _ _ _ _ _ _ _ (search rules) (omega arith) (omega arith) l.invariant c.live_bit.ensures).holds

pub returns : goal.returns
unfolding freed_at places
returns c =
    let l = c.loop-i in
    let h : l.i ≡ 0 = omega arith in
    rw h at l.invariant
