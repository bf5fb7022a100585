-- The first sixteen are sixteen, and a list of at most sixteen records is the front of them.
use mathlib.Core.Path.{◌≡◌, refl, sym, ◌∙◌, ap}
use mathlib.Core.List.{List, [], ◌∷◌}
use Prim.Native.Nat.{ℕ, zero, suc, ◌+◌, ◌≤◌}
use native.Mathlib.Numerals.{add-one}
use native.Mathlib.Omega.{arith}
use lib.ListN.{length, take, drop, drop_of_length-le}
use lib.Seq.{drop-cons}
use Rattle.record.specs.Places.{empty_record}
use Rattle.record.specs.declared.Record.{Record}
use Rattle.lent.specs.Sixteen.{record_at, first_sixteen}

-- n records from place i on
unfoldable filled : ℕ → ℕ → List Record → List Record
filled zero i xs = []
filled (suc n) i xs = record_at xs i ∷ filled n (i + 1) xs

-- the first k of them are the rest of the list, where that has k
front : (n k i : ℕ) (xs : List Record) → k ≤ n → k + i ≡ length xs → take k (filled n i xs) ≡ drop i xs
unfolding filled record_at
front n zero i xs h e = let past : length xs ≤ i = omega arith in sym (drop_of_length-le xs past)
front zero (suc k) i xs h e = absurd (omega arith)
front (suc n) (suc k) i xs h e =
    ap (λ (ys : List Record). record_at xs i ∷ ys) (front n k (i + 1) xs (omega arith) (omega arith))
    ∙ rw (add-one i) (sym (drop-cons xs i empty_record (omega arith)))

-- a list of at most sixteen records stands in front
pub take_sixteen : (xs : List Record) → length xs ≤ 16 → take (length xs) (first_sixteen xs) ≡ xs
unfolding first_sixteen filled
take_sixteen xs h = front 16 (length xs) 0 xs h (omega arith)

-- there are sixteen
pub length_sixteen : (xs : List Record) → length (first_sixteen xs) ≡ 16
unfolding first_sixteen
length_sixteen xs = refl
