-- The sizes decide: a bad one leaves the store, and a good one zeroes all of it.
use Rattle.table.proofs.OpenLaws.{open_refused, open_zeroed}
use Rattle.table.proofs.opening.open_store.Goals as goal

pub returns-then-is_bad_size : goal.returns-then-is_bad_size
returns-then-is_bad_size c = open_refused _ _ c.is_bad_size.ensures c.if-is_bad_size.true

pub returns : goal.returns
returns c = open_zeroed _ _ c.is_bad_size.ensures c.if-is_bad_size.false (c.fill.ensures.after (λ y h. h))
