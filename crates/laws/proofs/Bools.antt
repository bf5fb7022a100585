-- Laws of tests that are joined, beside the library's: in another order, grouped anew, and turned round.
use mathlib.Core.Path.{◌≡◌, refl, sym}
use mathlib.Core.Bool.{Bool, true, false, not, ◌&&◌, ◌||◌, and-true, and-false, or-true, or-false, or_assoc}

-- of three, the second in front
pub or_turned : (a b c : Bool) → (a || (b || c)) ≡ (b || (a || c))
or_turned true b c = rw (or-true b)
or_turned false b c = refl

-- of three, the first two together
pub or_together : (a b c : Bool) → (a || (b || c)) ≡ ((a || b) || c)
or_together a b c = sym (or_assoc a b c)

-- two tests that fail beside one, one by one and together
pub and_neither : (a b c : Bool) → ((a && not b) && not c) ≡ (a && not (c || b))
and_neither true b true = rw (and-false (not b))
and_neither true b false = rw (and-true (not b))
and_neither false b c = refl

-- three tests that fail, one by one and together
pub none_of_three : (a b c : Bool) → (not a && (not b && not c)) ≡ not (a || (b || (c || false)))
none_of_three true b c = refl
none_of_three false true c = refl
none_of_three false false c = rw (or-false c)
