-- Reading state as functions by value hold the table: what is found of the address, its record, how many were lent, and of the store
-- its length.
-- Rules 10.2, 10.4 to 10.6 of docs/RULES.md.
use Rattle.std.specs.Prelude.{◌≡◌, not, List, ◌∷◌, ℕ, eqb, ltb, length, Result, Ok, Err}
use Rattle.laws.specs.Choose.{pick}
use Rattle.laws.specs.First.{Row, row, first_of}
use Rattle.record.specs.Packages.{package_named}
use Rattle.record.specs.Sound.{latest_clock}
use Rattle.record.specs.declared.Record.{Record}
use Rattle.publish.specs.Refusals.{is_bad_size}
use Rattle.table.specs.Read.{Readout, asked_rows, newest_body, readout_of}
use Rattle.response.specs.Faults.{number_of}
use Rattle.response.specs.declared.fault.Fault.{Fault}
use Rattle.table.specs.declared.Shown.{Shown}
use Rattle.table.specs.declared.Shown.TheVariants.{Front}
use Rattle.table.specs.declared.State.{State}
use Rattle.table.specs.declared.looks.Sought.{Sought}

-- refused: 2, 4, 5, then 10 and 11
unfoldable pub read_rows : Sought → Record → ℕ → ℕ → ℕ → ℕ → List (Row ℕ)
read_rows k own n store event clock =
    row (is_bad_size n store) 2 ∷
    row (ltb latest_clock clock) 4 ∷
    row (not k.sound) 5 ∷
    asked_rows (ltb k.place n) own event clock

-- the state that is read there
unfoldable pub state_at : Sought → Record → ℕ → ℕ → List ℕ → ℕ → State
state_at k own n store name clock =
    let event = package_named name in
    let result = first_of (read_rows k own n store event clock) 0 in
    let shown = newest_body own k.place event clock in
    record { result = result; shown = pick (eqb result 0) shown Front }

-- the result told and the bytes shown are that state's
unfoldable pub ReadAt : Sought → Record → ℕ → (store name : List ℕ) (clock : ℕ) (default : List ℕ) (result : ℕ) (shown : List ℕ) → Type 0
ReadAt k own n store name clock default result shown =
    ◌≡◌ {A = Readout}
    (record { result = result; bytes = shown })
    (readout_of store default (state_at k own n (length store) name clock))

-- the state that the code gives: what is shown, or a refusal, which shows the empty front of the default
abbrev pub state_in : Result Shown Fault → State
state_in (Ok shown) = record { result = 0; shown = shown }
state_in (Err f) = record { result = number_of f; shown = Front }
