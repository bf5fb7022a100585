-- The law of a piece of a line.
use mathlib.Core.Path.{◌≡◌, refl}
use mathlib.Core.Bool.{Bool, true, false}
use mathlib.Core.List.{List}
use Prim.Native.Nat.{ℕ, ◌+◌, ◌<◌}
use native.Mathlib.Omega.{arith}
use lib.Dec.{ltb}
use lib.ListN.{length}
use borrow.Author.Tests.{ltb-false}
use Rattle.laws.specs.Choose.{pick}
use Rattle.text.specs.Class.{is_other}
use Rattle.text.specs.Runs.{past}
use Rattle.text.proofs.RunLaws.{past_from}
use Rattle.page.specs.Lines.{piece_at}
use Rattle.page.specs.declared.lines.Piece.{Piece}

-- the piece behind one that begins within the chunk begins further on
pub piece_on_lem : (s : List ℕ) (at : ℕ) {p : Piece} → p ≡ piece_at s at → at < length s → at < p.next
unfolding piece_at
piece_on_lem s at is h = rw is (go (ltb (past (is_other 10) s at) (length s)) refl)
  where
    go : (b : Bool) → ltb (past (is_other 10) s at) (length s) ≡ b → at < pick b (past (is_other 10) s at + 1) (past (is_other 10) s at)
    go true e = omega (arith, past_from (is_other 10) s at)
    go false e = omega (arith, ltb-false (past (is_other 10) s at) (length s) e)
