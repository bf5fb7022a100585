-- The classes of bytes, by their rule.
-- Rules 1.7, 2.3, 6.1 to 6.3, 6.24, 6.25 of docs/RULES.md.
use Rattle.std.specs.Prelude.{ℕ, List, Bool, ◌&&◌, ◌||◌, not, leb, eqb}
use Rattle.laws.specs.Choose.{pick}
use Rattle.laws.specs.Lists.{any, listed}
use Rattle.laws.specs.Bytes.{bytes}
use Rattle.text.specs.declared.class.Kind.{Kind}
use Rattle.text.specs.declared.class.Kind.TheVariants.{Digit, Blank, Visible, Plain}
use Rattle.text.specs.declared.class.Class.{Class}
use Rattle.text.specs.declared.class.Class.TheVariants.{Token, Value}

-- the number is one of a up to e
abbrev pub from_to : ℕ → ℕ → ℕ → Bool
from_to a e n = leb a n && leb n e

-- a digit
unfoldable pub is_digit : ℕ → Bool
is_digit b = from_to 48 57 b

-- a letter
unfoldable pub is_letter : ℕ → Bool
is_letter b = from_to 65 90 b || from_to 97 122 b

-- a space or tab
unfoldable pub is_blank : ℕ → Bool
is_blank b = eqb b 32 || eqb b 9

-- token bytes by RFC 3261: letters, digits and - . ! % * _ + ` ' ~
unfoldable pub is_token : ℕ → Bool
unfolding any
is_token b = is_letter b || (is_digit b || any (eqb b) (bytes "-.!%*_+`'~"))

-- value bytes are 9, 32 to 126, 128 to 255
unfoldable pub is_value : ℕ → Bool
is_value b = eqb b 9 || (from_to 32 126 b || from_to 128 255 b)

-- bytes 33 to 126, of which Request-URIs and addresses are made
unfoldable pub is_visible : ℕ → Bool
is_visible b = from_to 33 126 b

-- a byte that is no ; and no blank, as a value has up to its parameters
unfoldable pub is_plain : ℕ → Bool
is_plain b = not (eqb b 59 || is_blank b)

-- the class of a byte, numbered so that each question is one comparison:
-- 0 none, 1 a value byte alone, 2 a blank, 3 a token byte that is no digit, 4 a digit
unfoldable pub class_of : ℕ → ℕ
class_of b = pick (is_digit b) 4 (pick (is_token b) 3 (pick (is_blank b) 2 (pick (is_value b) 1 0)))

-- the classes of all 256 bytes
unfoldable pub class_table : List ℕ
class_table = listed class_of 0 256

-- a byte is of a kind that is told by comparisons
abbrev pub is_kind : Kind → ℕ → Bool
is_kind Digit = is_digit
is_kind Blank = is_blank
is_kind Visible = is_visible
is_kind Plain = is_plain

-- a byte is of a kind that is told by its class
abbrev pub is_class : Class → ℕ → Bool
is_class Token = is_token
is_class Value = is_value

-- a byte is another than c
abbrev pub is_other : ℕ → ℕ → Bool
is_other c b = not (eqb b c)
