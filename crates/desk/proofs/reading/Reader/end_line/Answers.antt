-- What is held is run, and nothing is held before the next line.
use mathlib.Core.Path.{refl}
use Rattle.desk.proofs.ReadToLaws.{read_line}
use Rattle.desk.proofs.reading.Reader.end_line.Goals as goal

pub returns-clause-runs : goal.returns-clause-runs
returns-clause-runs g c = read_line _ _ _ _ refl c.part_of-line.ensures c.run_line-ran.ensures.runs c.next_number-self.ensures
