-- The record is written anew, field by field.
use mathlib.Core.Path.{refl}
use Rattle.success.specs.After.{success_number}
use Rattle.success.proofs.after.with_slots.Goals as goal

pub returns : goal.returns
unfolding success_number
returns c = refl
