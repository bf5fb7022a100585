-- What is left to read says what the whole text says: so many numbers are left.
use mathlib.Core.Path.{◌≡◌}
use lib.ListN.{length, drop}
use Rattle.uri.specs.Pieces.{pieces}
use Rattle.uri.specs.Host.{is_iPv4}
use Rattle.uri.proofs.OctetLaws.{octets}
use Rattle.uri.proofs.groups.is_ipv4.Given as goal

abbrev pub invariant-loop-p : goal.invariant-loop-p
invariant-loop-p l = is_iPv4 l.s ≡ octets l.left (drop (length l.yielded) (pieces 46 l.s))
