-- The rows are tried in their order, and the first that applies is the answer.
use mathlib.Core.Path.{refl, sym, ◌∙◌}
use borrow.Author.Tests.{ne_eqb}
use Rattle.publish.specs.Refusals.{room_rows}
use Rattle.publish.specs.Refusal.{refusal_in}
use Rattle.publish.proofs.asking.Trial.room_refusal.Goals as goal

pub returns-then-is_full : goal.returns-then-is_full
unfolding room_rows refusal_in
returns-then-is_full c = rw (ne_eqb _ _ c.if-self.false, sym c.is_full.ensures ∙ c.if-is_full.true, c.retry_after.ensures) refl
