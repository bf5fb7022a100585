-- While the bytes are equal the answer is that of the texts behind them.
use mathlib.Core.Path.{◌≡◌}
use lib.ListN.{length, drop}
use Rattle.laws.specs.Lists.{same}
use Rattle.text.proofs.runs.are_same.Given as goal

abbrev pub invariant-loop-i : goal.invariant-loop-i
invariant-loop-i l = (length l.s ≡ length l.t) × (same l.s l.t ≡ same (drop l.i l.s) (drop l.i l.t))
