-- The part that is held is looked at.
use mathlib.Core.Path.{refl}
use Rattle.desk.proofs.reading.Reader.is_between.Goals as goal

pub returns : goal.returns
returns c = rw (c.is_empty.ensures, c.part_of.ensures) refl
