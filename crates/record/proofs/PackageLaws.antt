-- The laws of the packages: an array that lists a field of the table has it at each number, and past the table it is the field of none,
-- which has no type.
use mathlib.Core.Path.{◌≡◌, ap}
use mathlib.Core.List.{[], map}
use Prim.Native.Nat.{ℕ, ◌≤◌}
use lib.ListN.{get_or, get_or-map, get_or-eq_default}
use Rattle.record.specs.Packages.{Package, packages, package_at}

-- the entry at each number; number 3 has no package
pub entry : (f : Package → ℕ) (event : ℕ) → get_or (map f packages) event (f (package_at 3)) ≡ f (package_at event)
unfolding package_at packages
entry f event = get_or-map f packages event (package_at 3)

-- a package that is not listed has no type
pub no_type : (event : ℕ) → 3 ≤ event → (package_at event).type ≡ []
unfolding package_at packages
no_type event h = ap (λ (p : Package). p.type) (get_or-eq_default packages _ h)
