-- The bytes of a line.
-- Rule 11.1 of docs/RULES.md.
use Rattle.std.specs.Prelude.{ℕ, Bool, List, [], ltb}
use Rattle.laws.specs.Choose.{pick}
use Rattle.text.specs.Digits.{hex_value}
use Rattle.listing.specs.Frames.{is_hex, hex_bytes}

-- a hex digit, in either case
abbrev pub is_hex_digit : ℕ → Bool
is_hex_digit b = ltb (hex_value b) 16

-- the bytes of a line of hex digits; none where it is not so built
unfoldable pub line_bytes : List ℕ → List ℕ
line_bytes l = let bs = hex_bytes l in pick (is_hex l) bs []
