-- One name that opens every definition of this floor and of the floors below, for statements proved by computation.
use Rattle.std.specs.Prelude.{ℕ}
use Rattle.laws.specs.Lists.{byte_at, part, put_at, any, every, those, pairwise, place_of, same, empty}
use Rattle.laws.specs.First.{first_of, which_of}
use Rattle.text.specs.Class.{is_digit, is_letter, is_blank, is_token, is_value, is_visible, is_plain, class_of, class_table}
use Rattle.text.specs.Runs.{run, past, without, front, trim_end, trim, is_one_token}
use Rattle.text.specs.Number.{is_digits, decimal_from, decimal, number_of, is_fit, value_or}
use Rattle.text.specs.Names.{lower, lowered, same_text, is_named}
use Rattle.text.specs.Digits.{decimal_digits, decimal_of, hex_digit, hex_digits, eight_hex, hex_value, hex_from, hex_number}

unfoldable pub all_text : ℕ
unfolding byte_at part put_at any every those pairwise place_of same empty first_of which_of is_digit is_letter is_blank is_token is_value is_visible is_plain class_of class_table run past without front trim_end trim is_one_token is_digits decimal_from decimal number_of is_fit value_or lower lowered same_text is_named decimal_digits decimal_of hex_digit hex_digits eight_hex hex_value hex_from hex_number
all_text = 0
