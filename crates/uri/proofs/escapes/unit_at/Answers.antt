-- A % with two bytes behind it is an escape.
use mathlib.Core.Path.{sym}
use native.Mathlib.Omega.{arith}
use Rattle.uri.proofs.UnitLaws.{unit_escape}
use Rattle.uri.proofs.escapes.unit_at.Goals as goal

pub returns-then-s-i-gt2 : goal.returns-then-s-i-gt2
returns-then-s-i-gt2 c = rw c.escaped_byte.ensures (sym (unit_escape _ _ (omega arith) c.if-s-i-eq37.true))
