-- After i turns the bytes of the first i pairs are written, and each turn writes one more.
use Prim.Native.Nat.{◌+◌}
use lib.ListN.{take}
use Rattle.laws.specs.Wrote.{Wrote}
use Rattle.listing.specs.Frames.{hex_bytes}
use Rattle.frames.proofs.hex.put_bytes.Given as goal

abbrev pub invariant-loop-i : goal.invariant-loop-i
invariant-loop-i l = Wrote l.initial.out 0 (take l.i (hex_bytes l.line)) l.out (0 + l.i)
