-- The bytes passed so far are of the set, so they and the run that is left make the run of the whole text.
use mathlib.Core.Path.{◌≡◌}
use Prim.Native.Nat.{◌+◌}
use lib.ListN.{drop}
use Rattle.text.specs.Runs.{run}
use Rattle.text.proofs.runs.run.Given as goal

abbrev pub invariant-loop-i : goal.invariant-loop-i
invariant-loop-i g l = run (g.T.ByteSet.holds l.set) l.s ≡ l.i + run (g.T.ByteSet.holds l.set) (drop l.i l.s)
