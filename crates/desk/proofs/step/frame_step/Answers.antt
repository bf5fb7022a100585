-- A frame that is not so built changes nothing.
use Rattle.frames.specs.Asked.{frame_with}
use Rattle.desk.specs.Seen.{seen}
use Rattle.desk.proofs.LeftLaws.{left_bad}
use Rattle.desk.proofs.step.frame_step.Goals as goal

pub returns-in-None-clause-leaves : goal.returns-in-None-clause-leaves
unfolding frame_with
returns-in-None-clause-leaves c =
    let a = c.args in rw (rw c.in-None.is at c.read_frame.ensures) at (left_bad (seen a.desk.now) a.answer.now)
