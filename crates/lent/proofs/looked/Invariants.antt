-- After i turns the looks are those at the first i records.
use mathlib.Core.Path.{◌≡◌}
use lib.ListN.{length, take}
use Rattle.lent.proofs.LookedLaws.{LooksAt}
use Rattle.lent.proofs.looked.Given as goal

abbrev pub invariant-loop-i : goal.invariant-loop-i
invariant-loop-i l = (length l.looks ≡ 16) × LooksAt l.looks (take l.i l.front)
