-- While the slot differs from the occupied ones the answer is that of the slots behind them; the first that is alike gives it, and past the last it is yes.
use mathlib.Core.Path.{◌≡◌}
use lib.ListN.{drop}
use Rattle.laws.specs.Lists.{every}
use Rattle.record.proofs.WalkLaws.{slots_in}
use Rattle.record.proofs.SoundLaws.{differs}
use Rattle.record.proofs.sound.is_apart.Given as goal

abbrev pub invariant-loop-t : goal.invariant-loop-t
invariant-loop-t l = every (differs l.s) (slots_in l.initial.m l.behind) ≡ every (differs l.s) (slots_in l.m (drop l.t-index l.behind))
