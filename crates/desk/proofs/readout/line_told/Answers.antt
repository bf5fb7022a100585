-- The frame of the bytes that were decoded is read where more is asked for.
use Rattle.desk.proofs.ToldLaws.{told_line}
use Rattle.desk.proofs.readout.line_told.Goals as goal

pub returns : goal.returns
returns c = rw c.if-not-more.false (told_line _ _ _ c.decode-n.ensures c.part_of.ensures c.frame_told.ensures)
