-- Sixteen records and their store opened are the table that the listing begins with.
use mathlib.Core.Path.{◌≡◌, sym, ◌∙◌, ap}
use mathlib.Core.List.{List}
use Prim.Native.Nat.{ℕ}
use lib.ListN.{length, replicate, length-replicate}
use Rattle.record.specs.Places.{empty_record}
use Rattle.record.specs.declared.Record.{Record}
use Rattle.publish.specs.Refusals.{is_bad_size}
use Rattle.table.specs.Table.{Table, bad_size}
use Rattle.table.specs.Open.{After, opened, emptied}
use Rattle.listing.specs.Lent.{zero_table, open_table}
use Rattle.windgusset.specs.Ensured.{OpenedAs}

-- a table of these sizes is emptied, whatever it holds
sizes_open : (t : Table) → length t.records ≡ 16 → length t.store ≡ 65536
    → ◌≡◌ {A = Table} (opened t).table (record { records = replicate 16 empty_record; store = replicate 65536 0 })
unfolding opened bad_size is_bad_size emptied
sizes_open t h k = rw (h, k)

-- so is the one that the listing begins with
listing_begins : ◌≡◌ {A = Table} (open_table 16) (record { records = replicate 16 empty_record; store = replicate 65536 0 })
unfolding zero_table open_table
listing_begins = sizes_open _ (length-replicate 16 empty_record) (length-replicate {A = ℕ} 65536 0)

-- what opening leaves
pub opens : (rs : List Record) (store : List ℕ) (n : ℕ) (rs' : List Record) (store' : List ℕ)
    → length rs ≡ 16 → length store ≡ 65536 → OpenedAs rs store n rs' store'
    → ◌≡◌ {A = Table} (record { records = rs'; store = store' }) (open_table 16)
unfolding OpenedAs
opens rs store n rs' store' h k w =
    ap (λ (a : After). a.table) w ∙ sizes_open (record { records = rs; store = store }) h k ∙ sym listing_begins
