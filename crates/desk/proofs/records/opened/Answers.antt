-- What `open` leaves of the records and of the store that is lent is the table that the listing begins with.
use borrow.Author.Rules.{rules}
use Rattle.desk.proofs.OpenLaws.{opens}
use Rattle.desk.proofs.records.opened.Goals as goal

pub returns-clause-opens : goal.returns-clause-opens
returns-clause-opens c = λ long. opens _ c.args.store.now _ _ _ (search rules) long c.open.ensures
