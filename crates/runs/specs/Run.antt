-- Any run: what a caller lends, adds and sends. Only sizes are asked of it, and nothing of what is lent.
-- Rule 5.5 of docs/RULES.md.
use Rattle.std.specs.Prelude.{◌≡◌, Bool, true, false, ◌&&◌, List, [], ◌∷◌, map, ltb, leb, eqb, length}
use Rattle.laws.specs.Choose.{pick}
use Rattle.laws.specs.Lists.{every}
use Rattle.table.specs.Table.{Table, bad_size}
use Rattle.table.specs.Open.{opened}
use Rattle.table.specs.Add.{Entry, added}
use Rattle.table.specs.Handle.{Input}
use Rattle.table.specs.Run.{Sending, Exchange, Given, ran}

-- the answer buffer has at least 4,608 bytes
unfoldable pub has_room : Sending → Bool
has_room x = leb 4608 (length x.buffer)

-- start and spent count are numbers of 32 bits, as their types have them
unfoldable pub has_numbers : Entry → Bool
has_numbers e = ltb e.start 4294967296 && ltb e.spent 4294967296

-- a run: everything that a caller does
pub record Run : Type 0 where
  -- the records and the store that are lent to `open`, whatever they hold
  pub lent : Table
  -- what is given to `add` then, one entry after the other, refused ones among them
  pub entries : List Entry
  -- what is sent to `handle` then, one input after the other, each with an answer buffer, whatever it holds
  pub sendings : List Sending
  -- 1 to 16 records, and 4,096 store bytes for each
  pub sizes : bad_size lent ≡ false
  -- 32 bits for each start and spent count
  pub numbers : every has_numbers entries ≡ true
  -- 4,608 bytes or more for each answer
  pub buffers : every has_room sendings ≡ true

-- what the run gives: each input with its answer, and the table at the end
unfoldable pub given : Run → Given
given r = ran r.lent r.entries r.sendings

-- each input with its answer, in their order
unfoldable pub exchanges : Run → List Exchange
exchanges r = (given r).exchanges

-- the table at the end
unfoldable pub table_at_end : Run → Table
table_at_end r = (given r).table

-- the inputs that are sent, in their order
unfoldable pub inputs : Run → List Input
inputs r = map (λ x. x.input) r.sendings

-- the entries of a list that `add` accepts with result 0, one after the other
unfoldable pub accepted_from : List Entry → Table → List Entry
accepted_from [] t = []
accepted_from (e ∷ es) t =
    let d = added e t in
    let r = accepted_from es d.table in
    pick (eqb d.result 0) (e ∷ r) r

-- the entries that `add` accepts
unfoldable pub accepted : Run → List Entry
accepted r = accepted_from r.entries (opened r.lent).table
