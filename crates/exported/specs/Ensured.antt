-- What the exported functions promise: the definitions of the public ones, with what comes back in numbers.
-- Rules 1.6, 10.7 of docs/RULES.md.
use Rattle.std.specs.Prelude.{◌≡◌, List, ℕ}
use Rattle.record.specs.declared.Record.{Record}
use Rattle.table.specs.Table.{Table}
use Rattle.table.specs.Handle.{Done, done}
use Rattle.table.specs.Read.{state_of}
use Rattle.exported.specs.Numbers.{handled_numbers, state_numbers}
use Rattle.exported.specs.declared.numbers.HandledNumbers.{HandledNumbers}
use Rattle.exported.specs.declared.numbers.StateNumbers.{StateNumbers}

-- what is left of a call: its numbers, the table and the answer buffer
pub record Replied : Type 0 where
  pub numbers : HandledNumbers
  pub table : Table
  pub buffer : List ℕ

-- what a request leaves, in numbers
unfoldable pub replied : Done → Replied
replied d = record { numbers = handled_numbers d.handled; table = d.table; buffer = d.buffer }

-- `windgusset_handle`: numbers, records, store and answer buffer are those of `done`
unfoldable pub RepliedAs : (records : List Record) (store : List ℕ) (clock number : ℕ) (request answer : List ℕ)
    (numbers : HandledNumbers) (records' : List Record) (store' answer' : List ℕ) → Type 0
RepliedAs records store clock number request answer numbers records' store' answer' =
    ◌≡◌ {A = Replied}
    (record { numbers = numbers; table = record { records = records'; store = store' }; buffer = answer' })
    (replied
    (done (record { records = records; store = store }) answer (record { clock = clock; number = number; request = request })))

-- `windgusset_read`: the numbers are those of `state_of`
unfoldable pub ShownAs : (records : List Record) (store address name : List ℕ) (clock : ℕ) (numbers : StateNumbers) → Type 0
ShownAs records store address name clock numbers =
    numbers
    ≡ state_numbers (state_of (record { address = address; name = name; clock = clock }) (record { records = records; store = store }))
