-- What the program holds while it reads, as the definition has it, and what it leaves where it cannot print.
use Rattle.std.specs.Prelude.{◌≡◌, Bool, List, ℕ, ◌+◌, get_or, take}
use Rattle.laws.specs.Choose.{pick}
use Rattle.laws.specs.Lists.{part}
use Rattle.desk.specs.Reading.{Reading, hold_on, line_on, read_on}
use Rattle.desk.specs.Seen.{seen}
use Rattle.desk.specs.declared.records.Desk.{Desk}
use Rattle.desk.specs.declared.reading.Reader.{Reader}

-- the front of the line's buffer is held, and the desk is the table
abbrev pub reading_of : Reader → Desk → Reading
reading_of r d = record { held = part r.line 0 r.held; nth = r.nth; table = seen d }

-- a piece of a line is held, and where it ends the line, that is run
unfoldable pub piece_on : Reading → List ℕ → Bool → Reading
piece_on s bs ended = let h = hold_on s bs in pick ended (line_on h) h

-- the store is the one behind a line that LF ends at a position of a chunk
pub record RunIn (s : Reading) (chunk store : List ℕ) : Type 0 where
  pub at : ℕ
  pub ends : get_or chunk at 0 ≡ 10
  pub runs : store ≡ (read_on s (take (at + 1) chunk)).table.store

-- a chunk is read up to the end of a line that LF ends at a position of it
pub record RunUpTo (s : Reading) (chunk : List ℕ) (s' : Reading) : Type 0 where
  pub at : ℕ
  pub ends : get_or chunk at 0 ≡ 10
  pub reads : s' ≡ read_on s (take (at + 1) chunk)
