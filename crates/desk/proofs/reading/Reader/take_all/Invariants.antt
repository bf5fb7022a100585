-- Each turn takes one piece, behind which the next begins; the bytes before it are read, and reading on from there gives what the whole chunk
-- gives. The store stays the one that is lent.
use mathlib.Core.Path.{◌≡◌}
use Prim.Native.Nat.{◌-◌}
use lib.ListN.{length, take, drop}
use Rattle.desk.specs.Reading.{read_on}
use Rattle.desk.specs.ReadTo.{reading_of}
use Rattle.desk.proofs.reading.Reader.take_all.Given as goal

abbrev pub invariant-loop-at : goal.invariant-loop-at
invariant-loop-at g l =
    let s = reading_of l.initial.self l.initial.desk in
    let now = reading_of l.self l.desk in
    (read_on now (drop l.at l.chunk) ≡ read_on s l.chunk) × (now ≡ read_on s (take l.at l.chunk))
    × (l.desk.store.ghost_name ≡ l.initial.desk.store.ghost_name)

abbrev pub decreases-loop-at : goal.decreases-loop-at
decreases-loop-at g l = length l.chunk - l.at
