-- Opening a table.
-- Rules 5.1, 7.24 of docs/RULES.md.
use Rattle.std.specs.Prelude.{ℕ, List, [], ◌∷◌, length, replicate}
use Rattle.laws.specs.Choose.{pick}
use Rattle.laws.specs.First.{Row, row, first_of}
use Rattle.record.specs.Places.{empty_record}
use Rattle.table.specs.Table.{Table, bad_size}

-- a result, and the table after the call
pub record After : Type 0 where
  pub result : ℕ
  pub table : Table

-- opening gives 2 only
unfoldable pub open_refusals : Table → List (Row ℕ)
open_refusals t = row (bad_size t) 2 ∷ []

-- opening empties all records and zeroes the store
unfoldable pub emptied : Table → Table
emptied t = record { records = replicate (length t.records) empty_record; store = replicate (length t.store) 0 }

-- `open`: every refusal leaves records and store untouched
unfoldable pub opened : Table → After
opened t = record { result = first_of (open_refusals t) 0; table = pick (bad_size t) t (emptied t) }
