-- The classes of bytes of RFC 3261 section 25. A class whose texts may have escapes has % too: see Escapes.
-- Rules 12.2 to 12.8 of docs/RULES.md.
use Rattle.std.specs.Prelude.{ℕ, Bool, ◌||◌, not, eqb, ltb}
use Rattle.laws.specs.Lists.{any}
use Rattle.laws.specs.Bytes.{bytes}
use Rattle.text.specs.Class.{is_digit, is_letter}
use Rattle.text.specs.Digits.{hex_value}
use Rattle.uri.specs.declared.classes.Class.{Class}
use Rattle.uri.specs.declared.classes.Class.TheVariants.{User, Password, Parameter, Header, Label, Name, Alphanum, Letter, Digit, Hex, Reserved}

-- alphanum: a letter or a digit
unfoldable pub is_alphanum : ℕ → Bool
is_alphanum b = is_letter b || is_digit b

-- a hex digit, in either case
unfoldable pub is_hex : ℕ → Bool
is_hex b = ltb (hex_value b) 16

-- unreserved: letters, digits and the marks - _ . ! ~ * ' ( )
unfoldable pub is_unreserved : ℕ → Bool
unfolding any
is_unreserved b = is_alphanum b || any (eqb b) (bytes "-_.!~*'()")

-- reserved: ; / ? : @ & = + $ ,
unfoldable pub is_reserved : ℕ → Bool
unfolding any
is_reserved b = any (eqb b) (bytes ";/?:@&=+$,")

-- user: unreserved, escaped, user-unreserved
unfoldable pub is_user : ℕ → Bool
unfolding any
is_user b = is_unreserved b || any (eqb b) (bytes "%&=+$,;?/")

-- password: unreserved, escaped, & = + $ ,
unfoldable pub is_password : ℕ → Bool
unfolding any
is_password b = is_unreserved b || any (eqb b) (bytes "%&=+$,")

-- paramchar: unreserved, escaped, param-unreserved
unfoldable pub is_param_byte : ℕ → Bool
unfolding any
is_param_byte b = is_unreserved b || any (eqb b) (bytes "%[]/:&+$")

-- a byte of hname and hvalue: unreserved, escaped, hnv-unreserved
unfoldable pub is_header_byte : ℕ → Bool
unfolding any
is_header_byte b = is_unreserved b || any (eqb b) (bytes "%[]/?:+$")

-- a byte of a label: a letter, a digit or a hyphen
unfoldable pub is_label_byte : ℕ → Bool
is_label_byte b = is_alphanum b || eqb b 45

-- a byte of a hostname or an IPv4 address: labels and dots
unfoldable pub is_name_byte : ℕ → Bool
is_name_byte b = is_label_byte b || eqb b 46

-- a byte is of a class
abbrev pub is_of : Class → ℕ → Bool
is_of User = is_user
is_of Password = is_password
is_of Parameter = is_param_byte
is_of Header = is_header_byte
is_of Label = is_label_byte
is_of Name = is_name_byte
is_of Alphanum = is_alphanum
is_of Letter = is_letter
is_of Digit = is_digit
is_of Hex = is_hex
is_of Reserved = is_reserved

-- a byte that is not the one
unfoldable pub is_other : ℕ → ℕ → Bool
is_other c b = not (eqb b c)
