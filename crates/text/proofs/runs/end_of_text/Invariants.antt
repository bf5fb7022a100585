-- Where the text ends does not change while blanks are passed over from its end, and it ends behind the first other byte or where it begins.
use mathlib.Core.Path.{◌≡◌}
use Prim.Native.Nat.{◌+◌}
use lib.ListN.{length, drop}
use Rattle.text.specs.Runs.{trim_end}
use Rattle.text.proofs.TrimLaws.{text_end}
use Rattle.text.proofs.runs.end_of_text.Given as goal

abbrev pub invariant-loop-e : goal.invariant-loop-e
invariant-loop-e l = text_end l.s l.from l.e ≡ l.from + length (trim_end (drop l.from l.s))
