-- The law of the names' numbers.
use Prim.Native.Nat.{ℕ, ◌≤◌}
use mathlib.Core.List.{List}
use Rattle.laws.proofs.Lists.{place_within}
use Rattle.text.specs.Names.{is_named}
use Rattle.request.specs.Names.{spellings, name_number}

-- the numbers are at most 10
pub number_within : (t : List ℕ) → name_number t ≤ 10
unfolding name_number spellings
number_within t = place_within (λ n. is_named n t) spellings
