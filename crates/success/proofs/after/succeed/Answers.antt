-- The body is put in, and then the part is cleared for the places of the record after the success.
use borrow.Author.Rules.{rules}
use native.Mathlib.Omega.{arith}
use Rattle.success.proofs.SuccessLaws.{part_made}
use Rattle.success.proofs.after.succeed.Goals as goal

pub returns : goal.returns
returns c = (
  c.record_after-n.ensures,
  part_made _ _ _ _ _ _ _ _ (search rules) c.requires.3 (omega arith) c.requires.7
      c.put_given.ensures c.record_after-n.ensures c.clear_part.ensures,
)
