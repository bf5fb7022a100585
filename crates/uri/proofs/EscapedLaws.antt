-- What an escape of two digits stands for.
use mathlib.Core.Path.{◌≡◌, refl}
use mathlib.Core.Bool.{Bool, true, false}
use mathlib.Core.List.{List, [], ◌∷◌}
use Prim.Native.Nat.{ℕ, ◌-◌, ◌<◌, ◌≤◌}
use native.Mathlib.Decide.{dec_lt}
use native.Mathlib.Omega.{arith}
use lib.Dec.{eqb, ltb, leb}
use borrow.Author.Tests.{ne_eqb, ltb-true, leb-true}
use Rattle.std.specs.Option.{unwrap_or}
use Rattle.laws.specs.Choose.{pick, below}
use Rattle.laws.specs.Bytes.{bytes}
use Rattle.laws.specs.Lists.{any, every}
use Rattle.laws.proofs.Tests.{and_right, every_head, every_tail}
use Rattle.laws.proofs.Some.{below_some, below_none}
use Rattle.text.specs.Class.{from_to, is_digit}
use Rattle.text.specs.Digits.{hex_value}
use Rattle.uri.specs.Classes.{is_reserved}

-- a number above 255 is none of a list of bytes
none_above : (b : ℕ) → 255 < b → (l : List ℕ) → every (λ x. ltb x 256) l ≡ true → any (eqb b) l ≡ false
unfolding any
none_above b h [] t = refl
none_above b h (x ∷ xs) t =
    let low : x < 256 = ltb-true x 256 (every_head (λ x. ltb x 256) x xs t) in
    rw (ne_eqb b x (λ q. omega arith)) (none_above b h xs (every_tail (λ x. ltb x 256) x xs t))

-- no number above 255 is reserved
pub above_bare : (b : ℕ) → 255 < b → is_reserved b ≡ false
unfolding is_reserved any every
above_bare b h = none_above b h (bytes ";/?:@&=+$,") refl

-- a number that is at most another
at_most : (a e n : ℕ) → from_to a e n ≡ true → n ≤ e
at_most a e n t = leb-true n e (and_right (leb a n) (leb n e) t)

-- the value of a digit is at most 16
pub hex_most : (b : ℕ) → hex_value b ≤ 16
unfolding hex_value is_digit
hex_most b = go (from_to 48 57 b) refl (from_to 97 102 b) refl (from_to 65 70 b) refl
  where
    go : (d : Bool) → from_to 48 57 b ≡ d → (s : Bool) → from_to 97 102 b ≡ s → (c : Bool) → from_to 65 70 b ≡ c
        → pick d (b - 48) (pick s (b - 87) (pick c (b - 55) 16)) ≤ 16
    go true e s f c g = omega (arith, at_most 48 57 b e)
    go false e true f c g = omega (arith, at_most 97 102 b f)
    go false e false f true g = omega (arith, at_most 65 70 b g)
    go false e false f false g = omega arith

-- so it is told below 16, and 16 where it is not
pub hex_told : (b : ℕ) → unwrap_or (below 16 (hex_value b)) 16 ≡ hex_value b
hex_told b = go (dec_lt (hex_value b) 16)
  where
    go : Dec (hex_value b < 16) → unwrap_or (below 16 (hex_value b)) 16 ≡ hex_value b
    go (yes h) = rw (below_some 16 (hex_value b) h)
    go (no n) = rw (below_none 16 (hex_value b) (omega arith)) (omega (arith, hex_most b))
