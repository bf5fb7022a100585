-- After i turns the looks are those at the first i records.
use mathlib.Core.Path.{refl}
use native.Mathlib.Omega.{arith}
use lib.ListN.{length-set, length-take}
use Rattle.lent.proofs.LookedLaws.{looks_none, looks_more, looks_all}
use Rattle.lent.proofs.looked.Goals as goal

pub loop-i-init : goal.loop-i-init
loop-i-init c = (refl, looks_none _ c.no_look-looks.ensures)

pub loop-i-preserved : goal.loop-i-preserved
loop-i-preserved c =
    let l = c.loop-i in
    (simp length-set l.invariant.0, looks_more _ l.i c.loop-i-test.true _ _ _ (omega (arith, length-take c.min.result c.args.t.now)) c.look_of.ensures l.invariant.1)

pub returns : goal.returns
returns c =
    let l = c.loop-i in
    looks_all _ _ _ l.i c.min.ensures c.loop-i-test.false l.invariant.0 l.invariant.1
