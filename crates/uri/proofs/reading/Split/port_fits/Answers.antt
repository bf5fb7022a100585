-- Behind the colon of a port a digit is asked for.
use mathlib.Core.Path.{sym, ◌∙◌}
use Rattle.uri.specs.Read.{port_fits}
use Rattle.uri.proofs.reading.Split.port_fits.Goals as goal

pub returns-else-not-stands_at : goal.returns-else-not-stands_at
unfolding port_fits
returns-else-not-stands_at c = rw (sym c.stands_at.ensures ∙ c.if-not-stands_at.false)
