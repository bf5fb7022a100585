-- What is said of a line where more is asked for: of the witness's own frame what it reads, of another what is shown of it already.
-- Rule 11.9 of docs/RULES.md.
use Rattle.std.specs.Prelude.{ℕ, Bool, List}
use Rattle.laws.specs.Choose.{pick}
use Rattle.table.specs.Table.{Table}
use Rattle.listing.specs.Witness.{read_or}
use Rattle.frames.specs.Lines.{line_bytes}

unfoldable pub told_text : Bool → Table → List ℕ → List ℕ → List ℕ
told_text more t l shown = let read = read_or t (line_bytes l) shown in pick more read shown
