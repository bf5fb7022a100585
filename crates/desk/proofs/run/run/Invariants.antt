-- There are bytes of which what is held is what reading them gives: none at first, and with each turn the chunk that was read behind those before
-- it. Where it is known what the input has, they are what was read of it.
use mathlib.Core.Path.{◌≡◌}
use mathlib.Core.List.{List}
use Prim.Native.Nat.{ℕ}
use Rattle.std.specs.Io.KnownBytes.{Consumes}
use Rattle.desk.specs.Reading.{begun, read_on}
use Rattle.desk.specs.ReadTo.{reading_of}
use Rattle.desk.proofs.run.run.Given as goal

abbrev pub invariant-loop : goal.invariant-loop
invariant-loop g l = (bs : List ℕ) × (reading_of l.reader l.desk ≡ read_on begun bs)
    × Consumes (g.R.Read.remaining l.initial.input) (g.R.Read.remaining l.input) bs
