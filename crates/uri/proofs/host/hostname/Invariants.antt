-- What is left of the name says what the whole name says, and where its bytes end does not change.
use mathlib.Core.Path.{◌≡◌}
use Prim.Native.Nat.{◌-◌}
use lib.ListN.{length, drop}
use Rattle.text.specs.Runs.{past, front}
use Rattle.uri.specs.Classes.{is_name_byte}
use Rattle.uri.specs.Host.{is_hostname}
use Rattle.uri.proofs.HostnameLaws.{name_ends}
use Rattle.uri.proofs.host.hostname.Given as goal

abbrev pub invariant-loop-i : goal.invariant-loop-i
invariant-loop-i l = record {
  end : past is_name_byte l.s l.at ≡ past is_name_byte l.s l.i;
  name : is_hostname (front is_name_byte (drop l.at l.s)) ≡ name_ends l.top (drop l.i l.s);
}

abbrev pub decreases-loop-i : goal.decreases-loop-i
decreases-loop-i l = length l.s - l.i
