-- A tag as it is written, and the comparison of a presented token with it: as document 02 says it, and as the number that is read.
-- Rules 4.10, 6.26 of docs/RULES.md.
use Rattle.std.specs.Prelude.{◌≡◌, ℕ, Bool, true, List, length, nat_lt}
use Rattle.laws.specs.Lists.{every}
use Rattle.text.specs.Digits.{eight_hex, hex_value, hex_number}
use Rattle.text.specs.Names.{same_text}

-- a tag is written as eight lowercase hex digits
unfoldable pub tag_text : ℕ → List ℕ
tag_text tag = eight_hex tag

-- the presented token is this tag, in either case: tokens are compared without regard to case (RFC 3261 section 7.3.1)
unfoldable pub is_tag_text : List ℕ → ℕ → Bool
is_tag_text token tag = same_text token (tag_text tag)

-- a hex digit, in either case
abbrev pub is_hex : ℕ → Bool
is_hex b = nat_lt (hex_value b) 16

-- the token is eight hex digits, in either case, that make this number
pub record EightHex (token : List ℕ) (number : ℕ) : Type 0 where
  pub eight : length token ≡ 8
  pub digits : every is_hex token ≡ true
  pub makes : hex_number token ≡ number
