-- While the occupied slots differ from each behind them the answer is that of those; the first that does not gives it, and past the last it is yes.
use mathlib.Core.Path.{◌≡◌}
use lib.ListN.{drop}
use Rattle.laws.specs.Lists.{pairwise}
use Rattle.record.proofs.WalkLaws.{slots_in}
use Rattle.record.proofs.SoundLaws.{differs}
use Rattle.record.proofs.sound.slots_differ.Given as goal

abbrev pub invariant-loop-i : goal.invariant-loop-i
invariant-loop-i l = pairwise differs (slots_in l.initial.m l.slots) ≡ pairwise differs (slots_in l.m (drop l.i l.slots))
