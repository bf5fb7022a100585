-- What is no URI has its ends all the same.
use mathlib.Core.Path.{sym, ◌∙◌}
use Rattle.uri.specs.Read.{is_uri}
use Rattle.uri.specs.Parts.{reading_of}
use Rattle.uri.proofs.reading.read.Goals as goal

pub returns : goal.returns
unfolding reading_of is_uri
returns c = rw (← c.found_in-host.ensures.0, sym c.is_built.ensures ∙ c.if-is_built.false)
