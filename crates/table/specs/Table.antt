-- The lent table: its records and its store, and the record that is in use for an address.
-- Rules 1.5, 2.8, 4.3, 7.9, 8.8 of docs/RULES.md.
use Rattle.std.specs.Prelude.{ℕ, Bool, List, ltb, length, get_or, set}
use Rattle.laws.specs.Lists.{place_of}
use Rattle.record.specs.Places.{empty_record}
use Rattle.record.specs.Address.{is_for}
use Rattle.success.specs.Store.{with_part}
use Rattle.record.specs.declared.Record.{Record}
use Rattle.publish.specs.Refusals.{is_bad_size}

-- the records and the store that a caller lends
pub record Table : Type 0 where
  pub records : List Record
  pub store : List ℕ

-- records 0 or above 16, or store of another size
unfoldable pub bad_size : Table → Bool
bad_size t = is_bad_size (length t.records) (length t.store)

-- the place of the record that is in use for that address; the number of records where there is none
unfoldable pub place_for : List ℕ → Table → ℕ
place_for a t = place_of (is_for a) t.records

-- the address is in the table
unfoldable pub is_known : List ℕ → Table → Bool
is_known a t = ltb (place_for a t) (length t.records)

-- record i, or an empty one past the end
unfoldable pub record_at : Table → ℕ → Record
record_at t i = get_or t.records i empty_record

-- the table with another record i, and another part of the store for it
unfoldable pub with_record : Table → ℕ → Record → List ℕ → Table
with_record t i r bs = record { records = set t.records i r; store = with_part i bs t.store }
