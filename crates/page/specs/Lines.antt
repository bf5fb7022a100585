-- The pieces of lines in a chunk of bytes.
-- Rule 11.1 of docs/RULES.md.
use Rattle.std.specs.Prelude.{ℕ, ◌+◌, List, ltb, length}
use Rattle.laws.specs.Choose.{pick}
use Rattle.text.specs.Class.{is_other}
use Rattle.text.specs.Runs.{past}
use Rattle.page.specs.declared.lines.Piece.{Piece}

-- the piece from a position on: it ends at LF, which is passed over, or at the end of the chunk
unfoldable pub piece_at : List ℕ → ℕ → Piece
piece_at s at = let e = past (is_other 10) s at in record { end = e; next = pick (ltb e (length s)) (e + 1) e }
