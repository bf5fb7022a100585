-- While the bytes are the same in either case, what is left to compare says what the whole texts say.
use mathlib.Core.Path.{◌≡◌}
use lib.ListN.{length, drop}
use Rattle.text.specs.Names.{same_text}
use Rattle.text.proofs.names.same_text.Given as goal

abbrev pub invariant-loop-i : goal.invariant-loop-i
invariant-loop-i l = (length l.s ≡ length l.t) × (same_text l.s l.t ≡ same_text (drop l.i l.s) (drop l.i l.t))
