-- What the public functions promise: each leaves what its definition settles of what was lent, as one equation.
-- Rules 1.2, 1.5, 10.7 of docs/RULES.md.
use Rattle.std.specs.Prelude.{◌≡◌, List, ℕ}
use Rattle.record.specs.declared.Record.{Record}
use Rattle.table.specs.Open.{After, opened}
use Rattle.table.specs.Add.{added}
use Rattle.table.specs.Handle.{Done, done}
use Rattle.table.specs.Read.{Readout, state_of, readout_of}
use Rattle.table.specs.declared.Handled.{Handled}
use Rattle.table.specs.declared.State.{State}

-- `open`: result, records and store are those of `opened`
unfoldable pub OpenedAs : (records : List Record) (store : List ℕ) (result : ℕ) (records' : List Record) (store' : List ℕ) → Type 0
OpenedAs records store result records' store' =
    ◌≡◌ {A = After}
    (record { result = result; table = record { records = records'; store = store' } })
    (opened (record { records = records; store = store }))

-- `add`: result, records and store are those of `added`
unfoldable pub AddedAs : (records : List Record) (store address : List ℕ) (start spent : ℕ)
    (result : ℕ) (records' : List Record) (store' : List ℕ) → Type 0
AddedAs records store address start spent result records' store' =
    ◌≡◌ {A = After}
    (record { result = result; table = record { records = records'; store = store' } })
    (added (record { address = address; start = start; spent = spent }) (record { records = records; store = store }))

-- `handle`: outcome and length, records, store and answer buffer are those of `done`
unfoldable pub HandledAs : (records : List Record) (store : List ℕ) (clock number : ℕ) (request answer : List ℕ)
    (handled : Handled) (records' : List Record) (store' answer' : List ℕ) → Type 0
HandledAs records store clock number request answer handled records' store' answer' =
    ◌≡◌ {A = Done}
    (record { handled = handled; table = record { records = records'; store = store' }; buffer = answer' })
    (done (record { records = records; store = store }) answer (record { clock = clock; number = number; request = request }))

-- `read_state`: the state is that of `state_of`: its result, and where what is shown lies
unfoldable pub StateAs : (records : List Record) (store address name : List ℕ) (clock : ℕ) (state : State) → Type 0
StateAs records store address name clock state =
    state ≡ state_of (record { address = address; name = name; clock = clock }) (record { records = records; store = store })

-- `read`: the result told is that state's, and the part handed back has the bytes that it shows
unfoldable pub ReadAs : (records : List Record) (store address name : List ℕ) (clock : ℕ) (default : List ℕ)
    (result : ℕ) (shown : List ℕ) → Type 0
ReadAs records store address name clock default result shown =
    ◌≡◌ {A = Readout}
    (record { result = result; bytes = shown })
    (readout_of store default (state_of (record { address = address; name = name; clock = clock }) (record { records = records; store = store })))
