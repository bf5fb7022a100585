-- While the occupied slots are sound the answer is that of the slots behind them; the first that is not gives it, and past the last it is yes.
use mathlib.Core.Path.{sym, ◌∙◌, ap}
use borrow.Author.Rules.{rules}
use Rattle.laws.specs.Lists.{every}
use Rattle.record.specs.Places.{places, occupied}
use Rattle.record.specs.Sound.{is_sound_slot}
use Rattle.record.proofs.WalkLaws.{each_slot, no_slot, slots_end}
use Rattle.record.proofs.sound.slots_sound.Goals as goal
use Rattle.record.proofs.sound.slots_sound.Goals.{else-m-eq1-via-then-m-eq1+else-not-is_sound_slot, else-m-eq1-via-else-m-eq1}

pub returns-then-not-is_sound_slot : goal.returns-then-not-is_sound_slot
unfolding occupied places
returns-then-not-is_sound_slot c =
    let l = c.loop-s in
    sym (l.invariant ∙ no_slot _ _ l.m l.s-index (search rules) _ c.if-m-eq1.true (sym c.is_sound_slot.ensures ∙ c.if-not-is_sound_slot.true))

pub loop-s-preserved : goal.loop-s-preserved
loop-s-preserved c =
    let l = c.loop-s in
    l.invariant
    ∙ each_slot _ _ l.m l.s-index (search rules) (is_sound_slot c.args.r.now)
    (elim c.else-m-eq1.branch [
      | else-m-eq1-via-then-m-eq1+else-not-is_sound_slot w ↦ λ o. sym w.is_sound_slot.ensures ∙ w.if-not-is_sound_slot.false
      | else-m-eq1-via-else-m-eq1 w ↦ λ o. absurd (w.if-m-eq1.false o)
    ])

pub returns : goal.returns
unfolding occupied places every
returns c =
    let l = c.loop-s in
    sym (l.invariant ∙ ap (every _) (slots_end _ l.m l.s-index (search rules)))
