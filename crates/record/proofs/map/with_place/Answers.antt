-- A map with the bit of a place set is the map with that place, computed at each of the 256 maps and eight places.
use mathlib.Core.Path.{refl}
use Prim.Native.Nat.{◌*◌, ◌^◌, ◌%◌}
use lib.Bits.{bit_or}
use borrow.Author.Rules.{rules}
use Rattle.record.specs.Map.{has_place, with_place}
use Rattle.record.proofs.MapLaws.{alike}
use Rattle.record.proofs.map.with_place.Goals as goal

pub returns : goal.returns
unfolding with_place has_place
returns c =
    alike (λ m k. bit_or m (1 * 2 ^ k % 256)) with_place refl c.args.map c.args.k (search rules) (search rules)
