-- Decimal numbers with a bound. The value is bounded, not the count of digits.
-- Rule 6.18 of docs/RULES.md.
use Rattle.std.specs.Prelude.{ℕ, ◌+◌, ◌-◌, ◌*◌, Bool, true, false, ◌&&◌, not, List, [], ◌∷◌, leb, Option, Some, None}
use Rattle.laws.specs.Choose.{pick}
use Rattle.laws.specs.Lists.{every, empty}
use Rattle.text.specs.Class.{is_digit}

-- the text is digits: one or more, and nothing else
unfoldable pub is_digits : List ℕ → Bool
is_digits s = not (empty s) && every is_digit s

-- the number that v, and behind it the digits of the text, make
unfoldable pub decimal_from : ℕ → List ℕ → ℕ
decimal_from v [] = v
decimal_from v (x ∷ xs) = decimal_from (v * 10 + (x - 48)) xs

-- the number that the text's digits make
unfoldable pub decimal : List ℕ → ℕ
decimal s = decimal_from 0 s

-- what the text says as a number of at most so much; nothing where it is none
unfoldable pub number_of : ℕ → List ℕ → Option ℕ
number_of most s = pick (is_digits s && leb (decimal s) most) (Some (decimal s)) None

-- it is a number
unfoldable pub is_fit : Option ℕ → Bool
is_fit (Some n) = true
is_fit None = false

-- its value, or another where it is none
unfoldable pub value_or : ℕ → Option ℕ → ℕ
value_or other (Some n) = n
value_or other None = other
