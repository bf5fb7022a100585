-- A choice by a test.
use Rattle.std.specs.Prelude.{ℕ, Bool, true, false, Option, Some, None, ltb}

-- the first where the test holds, the second where it fails
abbrev pub pick : {A : Type 0} → Bool → A → A → A
pick true a b = a
pick false a b = b

-- a number that is below a bound; nothing where it is not
unfoldable pub below : ℕ → ℕ → Option ℕ
below n k = pick (ltb k n) (Some k) None
