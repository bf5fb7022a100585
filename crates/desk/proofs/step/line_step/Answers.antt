-- The frame of the bytes that were decoded is the line's.
use Rattle.frames.proofs.LineLaws.{decoded_frame}
use Rattle.desk.proofs.step.line_step.Goals as goal

pub returns : goal.returns
returns c = rw (decoded_frame _ c.decode-n.ensures c.part_of.ensures) at c.frame_step.ensures
