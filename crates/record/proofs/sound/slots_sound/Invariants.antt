-- While the occupied slots are sound the answer is that of the slots behind them; the first that is not gives it, and past the last it is yes.
use mathlib.Core.Path.{◌≡◌}
use lib.ListN.{drop}
use Rattle.laws.specs.Lists.{every}
use Rattle.record.specs.Sound.{is_sound_slot}
use Rattle.record.proofs.WalkLaws.{slots_in}
use Rattle.record.proofs.sound.slots_sound.Given as goal

abbrev pub invariant-loop-s : goal.invariant-loop-s
invariant-loop-s l = every (is_sound_slot l.fn.r) (slots_in l.initial.m l.s-items) ≡ every (is_sound_slot l.fn.r) (slots_in l.m (drop l.s-index l.s-items))
