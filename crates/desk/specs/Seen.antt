-- The desk as the definitions see it.
use Rattle.table.specs.Table.{Table}
use Rattle.desk.specs.declared.records.Desk.{Desk}

-- the table that the records and the store are
abbrev pub seen : Desk → Table
seen d = record { records = d.records; store = d.store.now }
