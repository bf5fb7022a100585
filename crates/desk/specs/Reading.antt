-- How the bytes of the input are read: one after the other, whatever the chunks in which they come.
-- Rules 11.1, 11.5 of docs/RULES.md.
use Rattle.std.specs.Prelude.{false, List, [], ◌∷◌, ◌++◌, ℕ, ◌+◌, ◌-◌, eqb, length, take}
use Rattle.laws.specs.Choose.{pick}
use Rattle.laws.specs.Lists.{empty}
use Rattle.table.specs.Table.{Table}
use Rattle.listing.specs.Lent.{open_table}
use Rattle.desk.specs.Turned.{printed_for, table_behind}

-- what is held of the line so far, its number, and the table before it
pub record Reading : Type 0 where
  pub held : List ℕ
  pub nth : ℕ
  pub table : Table

-- before the first line
unfoldable pub begun : Reading
begun = record { held = []; nth = 1; table = open_table 16 }

-- some bytes more of a line: those are held that there is room for, since 8,211 show that it is too long
unfoldable pub hold_on : Reading → List ℕ → Reading
hold_on s bs = record { held = s.held ++ take (8211 - length s.held) bs; nth = s.nth; table = s.table }

-- the greatest number of 64 bits
abbrev pub greatest : ℕ
greatest = 18446744073709551615

-- the number of the next line; the greatest stays
unfoldable pub next_number : ℕ → ℕ
next_number n = pick (eqb n greatest) n (n + 1)

-- the line that is held is run, and the next begins
unfoldable pub line_on : Reading → Reading
line_on s = record { held = []; nth = next_number s.nth; table = table_behind s.table s.held }

-- one byte more: LF runs the line, any other is held
unfoldable pub byte_on : Reading → ℕ → Reading
byte_on s b = pick (eqb b 10) (line_on s) (hold_on s (b ∷ []))

-- some bytes more
unfoldable pub read_on : Reading → List ℕ → Reading
read_on s [] = s
read_on s (b ∷ bs) = read_on (byte_on s b) bs

-- what the bench prints for the line that is held
unfoldable pub printed_here : Reading → List ℕ
printed_here s = printed_for false s.nth s.table s.held

-- what is printed for some bytes, which end the input: at LF for the line that is held, and at the end for a last line without LF
unfoldable pub printed_on : Reading → List ℕ → List ℕ
printed_on s [] = pick (empty s.held) [] (printed_here s)
printed_on s (b ∷ bs) = let rest = printed_on (byte_on s b) bs in pick (eqb b 10) (printed_here s ++ rest) rest
