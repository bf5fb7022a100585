-- Against a table address, a text that is a URI is asked by the short test.
use mathlib.Core.Path.{sym, ◌∙◌}
use Rattle.uri.proofs.AddressLaws.{same_asked}
use Rattle.uri.proofs.address.is_same.Goals as goal

pub returns-then-same_written : goal.returns-then-same_written
returns-then-same_written c =
    sym (same_asked _ _ c.in-Some.ensures c.in-Ok.ensures ∙ rw (← c.same_written.ensures, c.if-same_written.true) (sym c.is_open.ensures))

pub returns-else-same_written : goal.returns-else-same_written
returns-else-same_written c =
    sym (same_asked _ _ c.in-Some.ensures c.in-Ok.ensures ∙ rw (← c.same_written.ensures, c.if-same_written.false))
