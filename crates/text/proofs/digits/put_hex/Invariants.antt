-- Putting the digits that are left gives what is to stand there.
use mathlib.Core.Path.{◌≡◌}
use Prim.Native.Nat.{◌-◌}
use Rattle.laws.specs.Lists.{put_at}
use Rattle.text.specs.Digits.{hex_digits}
use Rattle.text.proofs.digits.put_hex.Given as goal

abbrev pub invariant-loop-p : goal.invariant-loop-p
invariant-loop-p l = put_at l.buf l.at (hex_digits (l.p - l.at) l.rest) ≡ put_at l.initial.buf l.at (hex_digits l.k l.n)
