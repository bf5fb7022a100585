-- The number of the text is that of the units that are left, behind the number of those that came.
use mathlib.Core.Path.{◌≡◌}
use Prim.Native.Nat.{◌<◌}
use lib.ListN.{length}
use Rattle.uri.specs.Escapes.{normal}
use Rattle.uri.specs.Units.{units_left}
use Rattle.uri.specs.Key.{weighed}
use Rattle.uri.proofs.escapes.weight.Given as goal

abbrev pub invariant-loop-u : goal.invariant-loop-u
invariant-loop-u l = record { low : l.k < 65536; same : weighed 0 (normal l.s) ≡ weighed l.k (units_left l.u-iterator) }

abbrev pub decreases-loop-u : goal.decreases-loop-u
decreases-loop-u l = length (units_left l.u-iterator)
