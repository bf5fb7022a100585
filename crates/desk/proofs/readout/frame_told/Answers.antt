-- The witness's own frame is read, and another is shown as it was.
use Rattle.frames.proofs.WantedLaws.{wanted_reads, wanted_none}
use Rattle.desk.proofs.ToldLaws.{reads_within, told_reads, told_other}
use Rattle.desk.proofs.readout.frame_told.Goals as goal

pub frame_state-requires : goal.frame_state-requires
frame_state-requires c = reads_within _ (wanted_reads _ c.read_wanted.ensures c.in-Some.is)

pub returns-in-Some : goal.returns-in-Some
returns-in-Some c = told_reads _ (wanted_reads _ c.read_wanted.ensures c.in-Some.is) _ _ c.frame_state.ensures

pub returns-in-None : goal.returns-in-None
returns-in-None c = told_other _ _ _ (wanted_none _ c.read_wanted.ensures c.in-None.is)
