-- The smaller is taken of the two times.
use Rattle.publish.proofs.TimeLaws.{granted_is}
use Rattle.publish.proofs.times.granted_time.Goals as goal

pub returns : goal.returns
returns c = granted_is _ _ c.most_of.ensures c.min.ensures
