-- Putting the pairs that are left gives what is to stand there, in the same buffer.
use Rattle.std.proofs.Common.{◌≡◌, drop}
use Rattle.page.specs.Page.{filled, pairs_on}
use Rattle.page.proofs.output.Page.hex_bytes.Given as goal

abbrev pub invariant-loop-b : goal.invariant-loop-b
invariant-loop-b l =
    (pairs_on (filled l.self) (drop l.b-index l.bs) ≡ pairs_on (filled l.initial.self) l.bs) × (l.self.bytes.ghost_name ≡ l.initial.self.bytes.ghost_name)
