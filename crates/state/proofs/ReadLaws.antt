-- The slot of a place is the slot that stands there.
use mathlib.Core.Path.{◌≡◌, refl}
use mathlib.Core.List.{List, [], ◌∷◌}
use Prim.Native.Nat.{ℕ, zero, suc, ◌/◌, ◌<◌}
use native.Mathlib.Nat.{not-suc-le-zero, le_of_suc-le-suc}
use lib.ListN.{length, get_or}
use Rattle.record.specs.Places.{free_place, places_in}
use Rattle.record.specs.declared.Slot.{Slot}

pub place_slot : (m : ℕ) (ss : List Slot) (k : ℕ) (d : Slot) → k < length ss → (get_or (places_in m ss) k free_place).slot ≡ get_or ss k d
unfolding places_in
place_slot m [] k d h = absurd (not-suc-le-zero h)
place_slot m (s ∷ ss) zero d h = refl
place_slot m (s ∷ ss) (suc k) d h = place_slot (m / 2) ss k d (le_of_suc-le-suc h)
