-- What is left of the end past the clock is compared with the most.
use Rattle.std.proofs.Common.{◌∙◌}
use Rattle.record.proofs.SoundLaws.{left_in_time}
use Rattle.record.proofs.sound.ends_in_time.Goals as goal

pub returns : goal.returns
returns c = left_in_time _ _ _ c.saturating_sub.ensures (c.from-most.ensures ∙ c.most_of.ensures)
