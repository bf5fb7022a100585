-- While the bytes are equal the answer is that of the rests behind them; a byte that differs, or the end of one of the two, gives it.
use mathlib.Core.Path.{◌≡◌}
use Rattle.record.proofs.CompareLaws.{rests}
use Rattle.record.proofs.address.is_held.Given as goal

abbrev pub invariant-loop-i : goal.invariant-loop-i
invariant-loop-i l = rests l.a l.held 0 ≡ rests l.a l.held l.i
