-- A reserved byte is told from its escape.
use mathlib.Core.Path.{sym, ◌∙◌}
use Rattle.uri.specs.Escapes.{escaped_byte}
use Rattle.uri.proofs.escapes.escaped_byte.Goals as goal

pub returns-in-Ok : goal.returns-in-Ok
unfolding escaped_byte
returns-in-Ok c = rw (← c.digit.ensures, ← c.digit-2.ensures, ← c.in-Ok.ensures.1, sym c.has.ensures ∙ c.if-has.true)
