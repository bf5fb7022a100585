-- While the occupied slots differ from each behind them the answer is that of those; the first that does not gives it, and past the last it is yes.
use mathlib.Core.Path.{sym, ◌∙◌, ap}
use borrow.Author.Rules.{rules}
use Rattle.laws.specs.Lists.{pairwise}
use Rattle.record.specs.Places.{places, occupied}
use Rattle.record.proofs.WalkLaws.{pair_of_slots, no_pair, slots_end}
use Rattle.record.proofs.SoundLaws.{differs, slots_asked}
use Rattle.record.proofs.sound.slots_differ.Goals as goal
use Rattle.record.proofs.sound.slots_differ.Goals.{else-m-eq1-via-then-m-eq1+else-not-is_apart, else-m-eq1-via-else-m-eq1}

pub returns-then-not-is_apart : goal.returns-then-not-is_apart
unfolding occupied places
returns-then-not-is_apart c =
    let l = c.loop-i in
    sym (slots_asked _ ∙ l.invariant ∙ no_pair _ _ l.m l.i (search rules) differs c.if-m-eq1.true (sym c.is_apart.ensures ∙ c.if-not-is_apart.true))

pub loop-i-preserved : goal.loop-i-preserved
loop-i-preserved c =
    let l = c.loop-i in
    l.invariant
    ∙ pair_of_slots _ _ l.m l.i (search rules) differs
    (elim c.else-m-eq1.branch [
      | else-m-eq1-via-then-m-eq1+else-not-is_apart w ↦ λ o. sym w.is_apart.ensures ∙ w.if-not-is_apart.false
      | else-m-eq1-via-else-m-eq1 w ↦ λ o. absurd (w.if-m-eq1.false o)
    ])

pub returns : goal.returns
unfolding occupied places pairwise
returns c =
    let l = c.loop-i in
    sym (slots_asked _ ∙ l.invariant ∙ ap (pairwise differs) (slots_end _ l.m l.i (search rules)))
