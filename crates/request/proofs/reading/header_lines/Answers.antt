-- A header line is noted, and the lines left are those behind it.
use Rattle.std.proofs.Common.{sym, ◌∙◌, ap, arith}
use Rattle.request.specs.Names.{name_number}
use Rattle.request.proofs.ReadingLaws.{goes_line}
use Rattle.request.proofs.reading.header_lines.Goals as goal

pub loop-preserved : goal.loop-preserved
loop-preserved c =
    c.loop.invariant
    ∙ goes_line _ _ _ _ _ _ _ (omega arith) (sym c.in-Some.ensures) (c.name_number-n.ensures ∙ ap name_number c.name_of.ensures) c.noted_once.ensures
