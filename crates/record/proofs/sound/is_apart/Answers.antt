-- While the slot differs from the occupied ones the answer is that of the slots behind them; the first that is alike gives it, and past the last it is yes.
use mathlib.Core.Path.{sym, ◌∙◌, ap}
use borrow.Author.Tests.{not-true, not-false}
use borrow.Author.Rules.{rules}
use Rattle.laws.specs.Lists.{every}
use Rattle.record.proofs.WalkLaws.{each_slot, no_slot, slots_end}
use Rattle.record.proofs.SoundLaws.{differs}
use Rattle.record.proofs.sound.is_apart.Goals as goal
use Rattle.record.proofs.sound.is_apart.Goals.{else-m-eq1-via-then-m-eq1+else-are_alike, else-m-eq1-via-else-m-eq1}

pub returns-then-are_alike : goal.returns-then-are_alike
returns-then-are_alike c =
    let l = c.loop-t in
    sym (l.invariant ∙ no_slot _ _ l.m l.t-index (search rules) (differs c.args.s.now) c.if-m-eq1.true (not-true _ (sym c.are_alike.ensures ∙ c.if-are_alike.true)))

pub loop-t-preserved : goal.loop-t-preserved
loop-t-preserved c =
    let l = c.loop-t in
    l.invariant
    ∙ each_slot _ _ l.m l.t-index (search rules) (differs c.args.s.now)
    (elim c.else-m-eq1.branch [
      | else-m-eq1-via-then-m-eq1+else-are_alike w ↦ λ o. not-false _ (sym w.are_alike.ensures ∙ w.if-are_alike.false)
      | else-m-eq1-via-else-m-eq1 w ↦ λ o. absurd (w.if-m-eq1.false o)
    ])

pub returns : goal.returns
unfolding every
returns c =
    let l = c.loop-t in
    sym (l.invariant ∙ ap (every _) (slots_end _ l.m l.t-index (search rules)))
