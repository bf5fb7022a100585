-- The digits that are written for a number, and the value of a hex digit that is read.
-- Rules 4.10, 9.4, 9.6, 11.1 of docs/RULES.md.
use Rattle.std.specs.Prelude.{ℕ, zero, suc, ◌+◌, ◌-◌, ◌*◌, ◌/◌, ◌%◌, List, [], ◌∷◌, ◌++◌, ltb}
use Rattle.laws.specs.Choose.{pick}
use Rattle.text.specs.Class.{from_to, is_digit}

-- the last decimal digits of n, at most k of them, with no zero in front
unfoldable pub decimal_digits : ℕ → ℕ → List ℕ
decimal_digits zero n = []
decimal_digits (suc k) n =
    let r = decimal_digits k (n / 10) ++ ((48 + n % 10) ∷ []) in pick (ltb n 10) ((48 + n) ∷ []) r

-- a number below 2 ^ 64 in decimal: it has at most 20 digits
unfoldable pub decimal_of : ℕ → List ℕ
decimal_of n = decimal_digits 20 n

-- a number below 16 as a lowercase hex digit
unfoldable pub hex_digit : ℕ → ℕ
hex_digit d = pick (ltb d 10) (48 + d) (87 + d)

-- the last k hex digits of n
unfoldable pub hex_digits : ℕ → ℕ → List ℕ
hex_digits zero n = []
hex_digits (suc k) n = hex_digits k (n / 16) ++ (hex_digit (n % 16) ∷ [])

-- eight lowercase hex digits of a 32-bit number
unfoldable pub eight_hex : ℕ → List ℕ
eight_hex n = hex_digits 8 n

-- the value of a hex digit in either case; 16 where the byte is none
unfoldable pub hex_value : ℕ → ℕ
hex_value b = pick (is_digit b) (b - 48) (pick (from_to 97 102 b) (b - 87) (pick (from_to 65 70 b) (b - 55) 16))

-- the number that the hex digits make, behind the number v
unfoldable pub hex_from : ℕ → List ℕ → ℕ
hex_from v [] = v
hex_from v (x ∷ xs) = hex_from (v * 16 + hex_value x) xs

-- the number that hex digits make
unfoldable pub hex_number : List ℕ → ℕ
hex_number s = hex_from 0 s
