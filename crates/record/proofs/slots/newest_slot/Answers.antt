-- The newest found so far, with the slots that are left, gives the newest of all.
use mathlib.Core.Path.{◌≡◌, sym, ◌∙◌, ap}
use Rattle.std.specs.Option.{option_map}
use borrow.Author.Rules.{rules}
use native.Mathlib.Omega.{arith}
use Rattle.laws.specs.Choose.{below}
use Rattle.record.proofs.SlotLaws.{one_more, no_more}
use Rattle.record.proofs.NewestLaws.{newest_start, newest_on, newest_before, newest_done}
use Rattle.record.proofs.slots.newest_slot.Goals as goal

pub loop-i-preserved : goal.loop-i-preserved
loop-i-preserved c =
    let l = c.loop-i in
    (newest_before _ _ _ _ _ c.better-best.ensures l.invariant.0, l.invariant.1 ∙ newest_on _ _ _ _ _ (one_more _ _ _ _ (search rules)) c.is_of.ensures c.better-best.ensures)

pub returns : goal.returns
returns c =
    let l = c.loop-i in
    let found : c.map.result ≡ option_map (λ b. b.slot) l.best = search rules in
    found ∙ sym (ap (below 8) (newest_start _ _ _ ∙ l.invariant.1) ∙ newest_done _ _ _ (no_more _ _ _ (search rules)) (omega arith) l.invariant.0)
