-- What is put behind the bytes that are held is held with them.
use mathlib.Core.Path.{refl}
use borrow.Author.Rules.{rules}
use Rattle.desk.proofs.ReadToLaws.{read_hold}
use Rattle.desk.proofs.reading.Reader.hold.Goals as goal

pub returns : goal.returns
returns c = λ d. read_hold _ _ (search rules) _ _ _ (search rules) refl c.hold_all-n.ensures
