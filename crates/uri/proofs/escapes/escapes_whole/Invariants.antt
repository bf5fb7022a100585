-- A byte that is no %, or a % with two hex digits behind it, leaves the answer to the bytes behind it.
use mathlib.Core.Path.{◌≡◌}
use lib.ListN.{drop}
use Rattle.uri.specs.Escapes.{escapes_whole}
use Rattle.uri.proofs.escapes.escapes_whole.Given as goal

abbrev pub invariant-loop-i : goal.invariant-loop-i
invariant-loop-i l = escapes_whole l.s ≡ escapes_whole (drop l.i l.s)
