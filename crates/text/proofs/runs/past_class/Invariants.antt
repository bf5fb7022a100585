-- Where the run ends does not change while bytes of the class are passed.
use mathlib.Core.Path.{◌≡◌}
use Rattle.text.specs.Class.{is_class}
use Rattle.text.specs.Runs.{past}
use Rattle.text.proofs.runs.past_class.Given as goal

abbrev pub invariant-loop-i : goal.invariant-loop-i
invariant-loop-i l = past (is_class l.class) l.s l.at ≡ past (is_class l.class) l.s l.i
