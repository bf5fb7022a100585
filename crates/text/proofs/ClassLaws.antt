-- The laws of the table of classes: what it has at a byte is the byte's class, and a question asked of the class is one asked of the byte.
use mathlib.Core.Path.{◌≡◌, refl}
use mathlib.Core.List.{List}
use Prim.Native.Nat.{ℕ, ◌<◌}
use lib.Dec.{leb}
use lib.ListN.{get_or}
use Rattle.laws.proofs.Table.{at, agree}
use Rattle.text.specs.Class.{class_of, class_table, is_token, is_digit, is_letter, is_blank, is_value}

-- the entry of the table at a byte
pub class_at : (t : List ℕ) (i b : ℕ) → t ≡ class_table → i ≡ b → b < 256 → get_or t i 0 ≡ class_of b
unfolding class_table
class_at t i b e v h = rw (e, v) (at class_of 0 256 b h)

-- at least 3 for the token bytes alone
pub token_class : (b : ℕ) → b < 256 → leb 3 (class_of b) ≡ is_token b
unfolding class_of is_token is_digit is_letter is_blank is_value
token_class b h = agree (λ n. leb 3 (class_of n)) is_token 256 refl b h

-- at least 1 for the value bytes alone
pub value_class : (b : ℕ) → b < 256 → leb 1 (class_of b) ≡ is_value b
unfolding class_of is_token is_digit is_letter is_blank is_value
value_class b h = agree (λ n. leb 1 (class_of n)) is_value 256 refl b h
