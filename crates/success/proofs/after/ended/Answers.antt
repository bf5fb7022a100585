-- With no slot matched the freed places are those after the success; otherwise the matched one is free among them.
use borrow.Author.Rules.{rules}
use Rattle.success.proofs.SuccessLaws.{ended_none, ended_one}
use Rattle.success.proofs.after.ended.Goals as goal

pub returns-then-x-ge8 : goal.returns-then-x-ge8
returns-then-x-ge8 c =
    let p = c.requires in
    ended_none _ _ _ _ (search rules) p.2 p.3 _ c.with_slots.ensures p.1 c.if-x-ge8.true

pub returns : goal.returns
returns c =
    let p = c.requires in
    ended_one _ _ _ _ (search rules) p.2 p.3 _ _ _ (rw c.from.ensures at c.with_slots-2.ensures) p.1 c.if-x-ge8.false c.without_place.ensures
    c.zero_slot.ensures
