-- While no slot matches, what is found is found from the next slot on, and the first that matches or the end gives it.
use mathlib.Core.Path.{sym, ◌∙◌, ap}
use borrow.Author.Rules.{rules}
use Rattle.laws.specs.Choose.{below}
use Rattle.laws.proofs.Some.{below_some, below_none}
use Rattle.record.proofs.SlotLaws.{one_more, no_more, found_here, found_on, found_none, matching_start}
use Rattle.record.proofs.slots.matching_slot.Goals as goal

pub returns-then-is_match : goal.returns-then-is_match
returns-then-is_match c =
    let l = c.loop-i in
    sym
    (ap (below 8) (matching_start _ _ _ _ ∙ l.invariant ∙ found_here _ _ (one_more _ _ _ _ (search rules)) c.is_match.ensures c.if-is_match.true)
    ∙ below_some 8 l.i (search rules))

pub loop-i-preserved : goal.loop-i-preserved
loop-i-preserved c = c.loop-i.invariant ∙ found_on _ _ (one_more _ _ _ _ (search rules)) c.is_match.ensures c.if-is_match.false

pub returns : goal.returns
returns c =
    let l = c.loop-i in
    sym (ap (below 8) (matching_start _ _ _ _ ∙ l.invariant ∙ found_none _ _ (no_more _ _ _ (search rules))) ∙ below_none 8 l.i (search rules))
