-- The ones of a map are its occupied places, computed at each of the 256 maps.
use mathlib.Core.Path.{refl}
use lib.Count.{ones, ones_in}
use borrow.Author.Rules.{rules}
use Rattle.laws.proofs.Table.{agree}
use Rattle.record.specs.Map.{occupied_in}
use Rattle.record.proofs.map.occupied.Goals as goal

pub returns : goal.returns
unfolding ones ones_in occupied_in
returns c = agree ones (occupied_in 8) 256 refl c.args.map (search rules)
