-- While the bytes are equal the answer is that of the rests behind them; a byte that differs, or the end of one of the two, gives it.
use mathlib.Core.Path.{sym, ◌∙◌}
use borrow.Author.Tests.{eq-eqb, ne_eqb}
use Rattle.record.proofs.CompareLaws.{held_over, held_on}
use Rattle.record.proofs.address.is_held.Goals as goal
use Rattle.record.proofs.address.is_held.Goals.{then-h-eq0-via-then-h-eq0, then-h-eq0-via-else-h-eq0+then-b-h}

pub returns-then-h-eq0 : goal.returns-then-h-eq0
returns-then-h-eq0 c =
    let l = c.loop-i in
    let h = c.byte_or_zero-h.ensures in
    elim c.then-h-eq0.branch [
      | then-h-eq0-via-then-h-eq0 w ↦ sym (l.invariant ∙ held_over _ _ _ c.loop-i-test.true h (w.if-h-eq0.true))
      | then-h-eq0-via-else-h-eq0+then-b-h w ↦ sym (l.invariant ∙ held_on _ _ _ c.loop-i-test.true h w.if-h-eq0.false (ne_eqb _ _ w.if-b-h.true))
    ]

pub loop-i-preserved : goal.loop-i-preserved
loop-i-preserved c =
    c.loop-i.invariant ∙ held_on _ _ _ c.loop-i-test.true c.byte_or_zero-h.ensures c.if-h-eq0.false (eq-eqb _ _ c.if-b-h.false)
