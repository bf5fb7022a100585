-- Where the publication is live the answer is whether its package is that one.
use mathlib.Core.Path.{refl, sym, ◌∙◌}
use Rattle.record.specs.Places.{is_of}
use Rattle.record.proofs.slots.is_of.Goals as goal

pub returns-then-is_live : goal.returns-then-is_live
unfolding is_of
returns-then-is_live c = rw (sym c.is_live.ensures ∙ c.if-is_live.true) refl
