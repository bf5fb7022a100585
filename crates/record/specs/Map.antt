-- The map of occupied slots as a number: the lowest bit is slot 0.
-- Rule 4.5 of docs/RULES.md.
use Rattle.std.specs.Prelude.{ℕ, zero, suc, ◌+◌, ◌-◌, ◌/◌, ◌%◌, ◌^◌, Bool, eqb}
use Rattle.laws.specs.Choose.{pick}

-- the lowest of the first k places that the map does not have; k where it has them all
unfoldable pub lowest_free_in : ℕ → ℕ → ℕ
lowest_free_in zero m = 0
lowest_free_in (suc k) m = let r = suc (lowest_free_in k (m / 2)) in pick (eqb (m % 2) 1) r 0

-- how many of the first k places the map has
unfoldable pub occupied_in : ℕ → ℕ → ℕ
occupied_in zero m = 0
occupied_in (suc k) m = m % 2 + occupied_in k (m / 2)

-- the map has place k
unfoldable pub has_place : ℕ → ℕ → Bool
has_place m k = eqb (m / 2 ^ k % 2) 1

-- the map with place k
unfoldable pub with_place : ℕ → ℕ → ℕ
with_place m k = pick (has_place m k) m (m + 2 ^ k)

-- the map without place k
unfoldable pub without_place : ℕ → ℕ → ℕ
without_place m k = pick (has_place m k) (m - 2 ^ k) m
