-- `put` meets its contract: after i turns the first i bytes are written, and each turn writes one more.
use mathlib.Core.Path.{◌≡◌}
use Prim.Native.Nat.{◌+◌, ◌≤◌}
use lib.ListN.{length, take}
use Rattle.laws.specs.Wrote.{Wrote}
use Rattle.text.proofs.put.put.Given as goal

abbrev pub invariant-loop-i : goal.invariant-loop-i
invariant-loop-i l = (l.i ≤ length l.bs) × (length l.buf ≡ length l.initial.buf) × Wrote l.initial.buf l.at (take l.i l.bs) l.buf (l.at + l.i)
