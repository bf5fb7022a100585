-- After i turns the question of all is that of those from i on.
use mathlib.Core.Path.{◌≡◌}
use lib.ListN.{drop}
use Rattle.lent.specs.Look.{looks_sound}
use Rattle.table.proofs.looks.all_sound.Given as goal

abbrev pub invariant-loop-i : goal.invariant-loop-i
invariant-loop-i l = looks_sound l.ls ≡ looks_sound (drop l.i l.ls)
