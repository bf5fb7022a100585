-- What the bench and the worked examples lend: zeroed records with their store, and a zeroed answer buffer.
-- Rule 11.5 of docs/RULES.md.
use Rattle.std.specs.Prelude.{ℕ, ◌*◌, List, replicate}
use Rattle.record.specs.Places.{empty_record}
use Rattle.table.specs.Table.{Table}
use Rattle.table.specs.Open.{opened}
use Rattle.table.specs.Handle.{Input}
use Rattle.table.specs.Run.{Sending}

-- so many records, and the store that goes with them
unfoldable pub zero_table : ℕ → Table
zero_table n = record { records = replicate n empty_record; store = replicate (4096 * n) 0 }

-- the same, opened
unfoldable pub open_table : ℕ → Table
open_table n = (opened (zero_table n)).table

-- an answer buffer of 4,608 bytes
unfoldable pub lent_buffer : List ℕ
lent_buffer = replicate 4608 0

-- an input sent with that buffer
unfoldable pub sending : Input → Sending
sending x = record { input = x; buffer = lent_buffer }
