-- A line's turn: what is printed for it, and what it leaves on the desk.
-- Rules 11.6, 11.9 of docs/RULES.md.
use Rattle.std.specs.Prelude.{◌≡◌, Bool, List, ◌++◌, ℕ}
use Rattle.laws.specs.Bytes.{bytes}
use Rattle.laws.specs.Choose.{pick}
use Rattle.laws.specs.Wrote.{Wrote}
use Rattle.text.specs.Digits.{decimal_of}
use Rattle.table.specs.Table.{Table}
use Rattle.listing.specs.Frames.{line_frame}
use Rattle.listing.specs.Listing.{shown_of}
use Rattle.listing.specs.Witness.{witness_text}
use Rattle.desk.specs.Left.{left_by}
use Rattle.desk.specs.declared.turn.Turn.{Turn}

-- what is printed for line l as number n: the listing's line, or the witness's in its place
unfoldable pub printed_for : Bool → ℕ → Table → List ℕ → List ℕ
printed_for more n t l =
    let said = pick more (witness_text t l) (shown_of t (line_frame l)).text in decimal_of n ++ (bytes " " ++ (said ++ bytes "\n"))

-- the table after line l
unfoldable pub table_behind : Table → List ℕ → Table
table_behind t l = (shown_of t (line_frame l)).table

-- a turn puts what is printed to the front of a page, and leaves the table, the message's length and the answer buffer that the definitions
-- leave
pub record Turned (more : Bool) (t : Table) (buffer line page : List ℕ) (n : ℕ) (r : Turn) (t' : Table) (buffer' page' : List ℕ) : Type 0 where
  pub prints : Wrote page 0 (printed_for more n t line) page' r.end
  pub leaves : t' ≡ table_behind t line
  pub length : r.length ≡ (left_by t buffer (line_frame line)).length
  pub answer : buffer' ≡ (left_by t buffer (line_frame line)).buffer
