-- Clearing the rooms from slot k on completes what is to be cleared, and each turn clears one room.
use borrow.Author.Rules.{rules}
use mathlib.Core.Path.{sym, ◌∙◌}
use native.Mathlib.Nat.{add-zero}
use native.Mathlib.Omega.{arith}
use Rattle.success.specs.Store.{part_at, part_of, with_part}
use Rattle.success.proofs.ClearLaws.{clear_turn, clear_end}
use Rattle.success.proofs.store.clear_part.Goals as goal

pub loop-k-init : goal.loop-k-init
loop-k-init c = (search rules, rw add-zero)

pub loop-k-preserved : goal.loop-k-preserved
loop-k-preserved c =
    let l = c.loop-k in
    let a = c.args in (
      search rules,
      rw c.zero_from.ensures
          (clear_turn l.store a.i l.m l.k a.slots _ _ (search rules) (omega arith) (omega arith) c.kept-n.ensures.0 ∙ l.invariant.1),
    )

pub returns : goal.returns
unfolding with_part part_of part_at
returns c =
    let l = c.loop-k in
    let a = c.args in
    sym (clear_end l.store a.i l.m l.k a.slots (search rules) (omega arith) (omega arith)) ∙ l.invariant.1
