-- What is left to read, from the place that was reached, says what the whole text says.
use mathlib.Core.Path.{◌≡◌}
use lib.ListN.{length, drop}
use Rattle.uri.specs.Pieces.{pieces}
use Rattle.uri.specs.Host.{is_iPv6}
use Rattle.uri.proofs.GroupLaws.{left_groups}
use Rattle.uri.proofs.groups.is_ipv6.Given as goal

abbrev pub invariant-loop-p : goal.invariant-loop-p
invariant-loop-p l = is_iPv6 l.s ≡ left_groups l.at l.before l.last (drop (length l.yielded) (pieces 58 l.s))
