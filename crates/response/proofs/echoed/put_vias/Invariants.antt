-- At each position the header lines from there on can be read, and putting the Via lines among them completes what is to be put.
use mathlib.Core.Path.{◌≡◌}
use mathlib.Core.Bool.{true}
use Prim.Native.Nat.{◌+◌, ◌-◌, ◌≤◌}
use lib.ListN.{length}
use Rattle.laws.specs.Lists.{put_at}
use Rattle.request.specs.HeaderLines.{copied}
use Rattle.request.specs.Names.{Via}
use Rattle.request.specs.Head.{lines_of, lines_named}
use Rattle.response.proofs.ViaLaws.{reads_from, vias_from}
use Rattle.response.proofs.echoed.put_vias.Given as goal

abbrev pub invariant-loop-l : goal.invariant-loop-l
invariant-loop-l l =
    let all = copied l.s (lines_named Via l.s (lines_of l.s)) in
    record {
      reads : reads_from l.s l.i ≡ true;
      within : l.i ≤ length l.s;
      place : l.p + length (vias_from l.s l.i) ≡ l.at + length all;
      rest : put_at l.buf l.p (vias_from l.s l.i) ≡ put_at l.initial.buf l.at all;
    }

abbrev pub decreases-loop-l : goal.decreases-loop-l
decreases-loop-l l = length l.s - l.i
