-- After i turns the first i bytes are written, and each turn writes one more.
use borrow.Author.Rules.{rules}
use Rattle.laws.proofs.Wrote.{wrote_more}
use Rattle.text.proofs.put.put.Goals as goal

pub loop-i-preserved : goal.loop-i-preserved
loop-i-preserved c = (search rules, search rules, wrote_more _ _ (search rules) (search rules) c.loop-i.invariant.2)
