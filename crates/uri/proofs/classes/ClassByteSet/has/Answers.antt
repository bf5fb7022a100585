-- The set of the class is asked, which has the bytes of the class.
use mathlib.Core.Path.{◌∙◌}
use native.Mathlib.Omega.{arith}
use Rattle.uri.proofs.ClassLaws.{in_class}
use Rattle.uri.proofs.classes.ClassByteSet.has.Goals as goal

pub returns : goal.returns
returns c = c.is_in.ensures ∙ rw c.set_of.ensures (in_class _ _ (omega arith))
