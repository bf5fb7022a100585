-- The head does not change while header lines are noted: what the names seen and the lines left make of it is the same after each turn.
use Rattle.std.proofs.Common.{◌≡◌, ◌-◌}
use Rattle.request.specs.HeaderLines.{header_lines}
use Rattle.request.specs.Head.{with_headers}
use Rattle.request.proofs.ReadingLaws.{goes_on}
use Rattle.request.proofs.reading.header_lines.Given as goal

abbrev pub invariant-loop : goal.invariant-loop
invariant-loop l =
    with_headers l.s l.first.method l.first.uri (header_lines 64 l.s l.first.next)
    ≡ goes_on l.s l.first.method l.first.uri l.seen (header_lines (64 - l.counter) l.s l.at)
