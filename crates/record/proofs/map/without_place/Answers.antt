-- A map with the bit of a place cleared is the map without that place, computed at each of the 256 maps and eight places.
use mathlib.Core.Path.{refl}
use Prim.Native.Nat.{◌*◌, ◌-◌, ◌^◌, ◌%◌}
use lib.Bits.{bit_and}
use borrow.Author.Rules.{rules}
use Rattle.record.specs.Map.{has_place, without_place}
use Rattle.record.proofs.MapLaws.{alike}
use Rattle.record.proofs.map.without_place.Goals as goal

pub returns : goal.returns
unfolding without_place has_place
returns c =
    alike (λ m k. bit_and m (255 - 1 * 2 ^ k % 256)) without_place refl c.args.map c.args.k (search rules) (search rules)
