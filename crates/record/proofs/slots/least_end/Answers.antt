-- The least end found so far, with the ends that are left, is the least end of all.
use mathlib.Core.Path.{sym, ◌∙◌}
use borrow.Author.Rules.{rules}
use Rattle.record.proofs.SlotLaws.{one_more, no_more, least_start, least_on, least_done}
use Rattle.record.proofs.slots.least_end.Goals as goal

pub loop-s-preserved : goal.loop-s-preserved
loop-s-preserved c = c.loop-s.invariant ∙ least_on _ _ _ _ (one_more _ _ _ _ (search rules)) c.is_live.ensures c.lesser-least.ensures

pub returns : goal.returns
returns c = sym (least_start _ _ ∙ c.loop-s.invariant ∙ least_done _ _ (no_more _ _ _ (search rules)))
