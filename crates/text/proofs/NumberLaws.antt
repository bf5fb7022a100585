-- The laws of decimal numbers: what a number that is read up to a place says, as its next byte is read.
use mathlib.Core.Path.{◌≡◌, refl}
use mathlib.Core.Bool.{Bool, true, false, ◌&&◌}
use mathlib.Core.List.{List, [], ◌∷◌}
use Prim.Native.Nat.{ℕ, ◌+◌, ◌-◌, ◌*◌, ◌<◌, ◌≤◌}
use native.Mathlib.Numerals.{add-one}
use native.Mathlib.Omega.{arith}
use lib.Dec.{leb}
use lib.ListN.{length, get_or, drop, drop_of_length-le}
use lib.Seq.{drop-cons}
use borrow.Author.Tests.{le-leb, lt-leb, leb-true}
use Rattle.std.proofs.Common.{Option, Some, None}
use Rattle.laws.specs.Choose.{pick}
use Rattle.laws.specs.Lists.{every, empty}
use Rattle.laws.proofs.Tests.{and_left}
use Rattle.text.specs.Class.{is_digit}
use Rattle.text.specs.Number.{is_digits, decimal_from, decimal, number_of}

-- what v, and behind it the rest of the text, say as a number of at most so much
unfoldable pub number_from : ℕ → ℕ → List ℕ → Option ℕ
number_from most v s = pick (every is_digit s && leb (decimal_from v s) most) (Some (decimal_from v s)) None

-- an empty text says no number
pub number_none : (most : ℕ) (s : List ℕ) → length s ≡ 0 → number_of most s ≡ None
unfolding number_of is_digits empty
number_none most [] e = refl
number_none most (x ∷ s) e = absurd (omega arith)

-- any other says what all of it says behind 0
pub number_some : (most : ℕ) (s : List ℕ) → (length s ≡ 0 → ⊥) → number_of most s ≡ number_from most 0 s
unfolding number_of number_from is_digits empty decimal
number_some most [] e = absurd (e refl)
number_some most (x ∷ s) e = refl

-- a digit is at least the digit 0
pub digit_from : (b : ℕ) → is_digit b ≡ true → 48 ≤ b
unfolding is_digit
digit_from b e = leb-true 48 b (and_left (leb 48 b) (leb b 57) e)

-- further digits make no number smaller
grows : (v : ℕ) (s : List ℕ) → v ≤ decimal_from v s
unfolding decimal_from
grows v [] = omega arith
grows v (x ∷ s) = omega (arith, grows (v * 10 + (x - 48)) s)

-- a number that is too large is unfit
too_large : (most v : ℕ) (s : List ℕ) → most < v → number_from most v s ≡ None
unfolding number_from
too_large most v s h = rw (lt-leb (decimal_from v s) most (omega (arith, grows v s))) (go (every is_digit s))
  where
    go : (b : Bool) → pick (b && false) (Some (decimal_from v s)) None ≡ None
    go true = refl
    go false = refl

-- at the end of the text the number is there
pub number_end : (most v : ℕ) (s : List ℕ) (i : ℕ) → length s ≤ i → v ≤ most → number_from most v (drop i s) ≡ Some v
unfolding number_from decimal_from every
number_end most v s i h k = rw (drop_of_length-le s h, le-leb v most k)

module _ (most v : ℕ) (s : List ℕ) (i : ℕ) (h : i < length s) where
  -- the next byte is no digit
  pub number_off : is_digit (get_or s i 0) ≡ false → number_from most v (drop i s) ≡ None
  unfolding number_from every
  number_off e = rw (drop-cons s i 0 h, e)

  -- the next byte is a digit, and the number goes on with it
  pub number_on : is_digit (get_or s i 0) ≡ true
      → number_from most v (drop i s) ≡ number_from most (v * 10 + (get_or s i 0 - 48)) (drop (i + 1) s)
  unfolding number_from decimal_from every
  number_on e = rw (add-one i, drop-cons s i 0 h, e)

  -- and it is too large with it
  pub number_over : is_digit (get_or s i 0) ≡ true → most < v * 10 + (get_or s i 0 - 48) → number_from most v (drop i s) ≡ None
  number_over e o = rw (number_on e) (too_large most (v * 10 + (get_or s i 0 - 48)) (drop (i + 1) s) o)

-- what a reader of decimal digits asks
pub ruleset number_steps = (number_none, number_some, digit_from, number_off, number_on, number_over, number_end)
