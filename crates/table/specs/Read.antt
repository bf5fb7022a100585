-- Reading state. Of the store only its size is asked, so whether the sizes are bad is said beside the table: the code holds the
-- records that were lent, and of the store its length.
-- Rules 10.1 to 10.7 of docs/RULES.md.
use Rattle.std.specs.Prelude.{ℕ, ◌+◌, Bool, ◌||◌, not, List, [], ◌∷◌, ltb, eqb, get_or}
use Rattle.laws.specs.Choose.{pick}
use Rattle.laws.specs.First.{Row, row, first_of}
use Rattle.laws.specs.Lists.{part}
use Rattle.record.specs.Packages.{package_named, is_listed}
use Rattle.record.specs.Places.{free_place, places, newest}
use Rattle.record.specs.Sound.{latest_clock, all_sound}
use Rattle.success.specs.Store.{part_at, room_at}
use Rattle.record.specs.declared.Record.{Record}
use Rattle.table.specs.Table.{Table, bad_size, place_for, is_known, record_at}
use Rattle.table.specs.declared.Shown.{Shown}
use Rattle.table.specs.declared.Shown.TheVariants.{Stored, Default, Front}
use Rattle.table.specs.declared.State.{State}

-- what is asked: address and package bytes, and the clock
pub record Query : Type 0 where
  pub address : List ℕ
  pub name : List ℕ
  pub clock : ℕ

-- the record that the query is about
unfoldable pub asked_record : Query → Table → Record
asked_record y t = record_at t (place_for y.address t)

-- refused by what is asked of one record: 10 address or package not known, 11 clock below the latest success
unfoldable pub asked_rows : Bool → Record → ℕ → ℕ → List (Row ℕ)
asked_rows known own event clock = row (not known || not (is_listed event)) 10 ∷ row (ltb clock own.clock) 11 ∷ []

-- refused: 2, 4, 5, then 10 and 11
unfoldable pub read_refusals : Bool → Query → Table → List (Row ℕ)
read_refusals bad y t =
    row bad 2 ∷
    row (ltb latest_clock y.clock) 4 ∷
    row (not (all_sound t.records)) 5 ∷
    asked_rows (is_known y.address t) (asked_record y t) (package_named y.name) y.clock

-- the body of slot k of a record that stands at place i, as a part of the store
unfoldable pub body_at : Record → ℕ → ℕ → Shown
body_at r i k = Stored (part_at i + room_at k) (get_or (places r) k free_place).slot.length

-- the body of that package's live publication with the highest body number; with none live, the whole default body
unfoldable pub newest_body : Record → ℕ → ℕ → ℕ → Shown
newest_body r i event clock = let k = newest clock event r in pick (ltb k 8) (body_at r i k) Default

-- the same of the record that the query is about
unfoldable pub shown_for : Query → Table → Shown
shown_for y t = newest_body (asked_record y t) (place_for y.address t) (package_named y.name) y.clock

-- what is read where the sizes are bad or not: a refusal shows the empty front part of the default
unfoldable pub state_with : Bool → Query → Table → State
state_with bad y t =
    let result = first_of (read_refusals bad y t) 0 in
    let shown = shown_for y t in
    record { result = result; shown = pick (eqb result 0) shown Front }

-- `read`
unfoldable pub state_of : Query → Table → State
state_of y t = state_with (bad_size t) y t

-- the bytes that are shown, of the store or of the caller's default body
unfoldable pub shown_bytes : (store default : List ℕ) → Shown → List ℕ
shown_bytes store default (Stored from n) = part store from (from + n)
shown_bytes store default Default = default
shown_bytes store default Front = []

-- what a caller is given: the result, and the bytes that are shown
pub record Readout : Type 0 where
  pub result : ℕ
  pub bytes : List ℕ

-- what a state gives
unfoldable pub readout_of : (store default : List ℕ) → State → Readout
readout_of store default s = record { result = s.result; bytes = shown_bytes store default s.shown }
