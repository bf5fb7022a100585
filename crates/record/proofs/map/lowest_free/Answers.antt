-- The trailing zeros of a map's complement are its lowest free place, computed at each of the 256 maps.
use mathlib.Core.Path.{refl}
use Prim.Native.Nat.{◌-◌}
use lib.Count.{count_trailing_zeros}
use borrow.Author.Rules.{rules}
use Rattle.laws.proofs.Table.{agree}
use Rattle.record.specs.Map.{lowest_free_in}
use Rattle.record.proofs.map.lowest_free.Goals as goal

pub returns : goal.returns
unfolding count_trailing_zeros lowest_free_in
returns c = agree (λ m. count_trailing_zeros 8 (255 - m)) (lowest_free_in 8) 256 refl c.args.map (search rules)
