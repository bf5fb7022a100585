-- The table is the list of the classes of the bytes 0 to 255.
use mathlib.Core.Path.{refl}
use Rattle.text.specs.Class.{class_table, class_of, is_token, is_digit, is_letter, is_blank, is_value}
use Rattle.text.proofs.class.classes.Goals as goal

pub returns : goal.returns
unfolding class_table class_of is_token is_digit is_letter is_blank is_value
returns c = refl
