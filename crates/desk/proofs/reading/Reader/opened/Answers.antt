-- Nothing is held before the first line.
use Rattle.desk.proofs.ReadToLaws.{read_begun}
use Rattle.desk.proofs.reading.Reader.opened.Goals as goal

pub returns : goal.returns
returns c = λ d w. read_begun _ _ w
