-- What is read by the looks at the lent records, with the record of the address, is what is read of the lent table.
use mathlib.Core.Path.{◌≡◌, refl}
use mathlib.Core.Bool.{Bool, true, false}
use mathlib.Core.List.{List}
use Prim.Native.Nat.{ℕ, ◌≤◌}
use lib.ListN.{length}
use Rattle.laws.specs.First.{first_of}
use Rattle.record.specs.declared.Record.{Record}
use Rattle.lent.specs.Sixteen.{record_at}
use Rattle.lent.specs.Look.{looks_of}
use Rattle.publish.specs.Refusals.{is_bad_size}
use Rattle.table.specs.Table.{bad_size, is_known, record_at as recordIn}
use Rattle.table.specs.Read.{Query, asked_record, read_refusals, shown_for, state_with, state_of}
use Rattle.table.specs.Looked.{sought_in}
use Rattle.table.specs.declared.looks.Sought.{Sought}
use Rattle.table.proofs.OneRecord.{few_records}
use Rattle.table.proofs.LookedLaws.{LooksLong, sought_lent}
use Rattle.state.specs.Looked.{read_rows, state_at}

module _ (rs : List Record) (store address name : List ℕ) (clock : ℕ) (long : LooksLong rs) where
  -- what is found of the address by the looks
  abbrev k : Sought
  k = sought_in address (looks_of rs) (length rs)

  abbrev asks : Query
  asks = record { address = address; name = name; clock = clock }

  pub read_looked : state_of asks (record { records = rs; store = store }) ≡ state_at k (record_at rs k.place) (length rs) (length store) name clock
  unfolding state_of state_with read_refusals bad_size is_known asked_record record_at recordIn shown_for first_of state_at read_rows
  read_looked = go (is_bad_size (length rs) (length store)) refl
    where
      go : (b : Bool) → is_bad_size (length rs) (length store) ≡ b
          → state_of asks (record { records = rs; store = store }) ≡ state_at k (record_at rs k.place) (length rs) (length store) name clock
      go true e = rw e
      go false e =
          let few : length rs ≤ 16 = few_records (length rs) (length store) e in
          rw (e, sought_lent address rs store few long)
