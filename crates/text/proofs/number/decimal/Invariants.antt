-- What the digits read so far and the rest say is what the whole text says.
use mathlib.Core.Path.{◌≡◌}
use Prim.Native.Nat.{◌≤◌}
use lib.ListN.{drop}
use Rattle.text.specs.Number.{number_of}
use Rattle.text.proofs.NumberLaws.{number_from}
use Rattle.text.proofs.number.decimal.Given as goal

abbrev pub invariant-loop-b : goal.invariant-loop-b
invariant-loop-b l = (l.v ≤ l.most) × (number_of l.most l.s ≡ number_from l.most l.v (drop l.b-index l.s))
