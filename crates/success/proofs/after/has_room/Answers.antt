-- A slot is found exactly where the one that the definition writes is below 8.
use mathlib.Core.Path.{◌∙◌, ap}
use borrow.Author.Rules.{rules}
use Rattle.std.specs.Prelude.{is_some}
use Rattle.success.proofs.SuccessLaws.{slot_found, told_slot}
use Rattle.success.proofs.after.has_room.Goals as goal

pub returns : goal.returns
returns c = c.is_some.ensures ∙ ap is_some (slot_found _ _ _ (search rules) c.live_map.ensures c.slot_to_write.ensures) ∙ told_slot _
