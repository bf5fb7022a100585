-- The laws of digits: how many are written for a number, and how a writer puts them, the last behind the others.
use mathlib.Core.Path.{◌≡◌, refl}
use mathlib.Core.Bool.{Bool, true, false}
use mathlib.Core.List.{List, [], ◌∷◌, ◌++◌, append_assoc}
use Prim.Native.Nat.{ℕ, zero, suc, ◌+◌, ◌-◌, ◌/◌, ◌%◌, ◌^◌, ◌<◌, ◌≤◌}
use native.Mathlib.Numerals.{sub-one}
use native.Mathlib.Omega.{arith}
use lib.Dec.{ltb}
use lib.ListN.{length, take, drop, set, length-append}
use lib.Seq.{length-take-le, take-set-le, set_split, drop_at}
use borrow.Author.Tests.{lt-ltb, le-ltb}
use Rattle.laws.specs.Choose.{pick}
use Rattle.laws.specs.Lists.{put_at}
use Rattle.laws.proofs.Puts.{put_none, put_then}
use Rattle.text.specs.Digits.{hex_digit, hex_digits, eight_hex, decimal_digits, decimal_of}

-- one byte behind others
one_more : (xs : List ℕ) (x : ℕ) → length (xs ++ (x ∷ [])) ≡ length xs + 1
one_more xs x = length-append xs (x ∷ [])

-- k hex digits are k bytes
pub hex_length : (k n : ℕ) → length (hex_digits k n) ≡ k
unfolding hex_digits
hex_length zero n = refl
hex_length (suc k) n = omega (arith, one_more (hex_digits k (n / 16)) (hex_digit (n % 16)), hex_length k (n / 16))

-- eight hex digits are eight bytes
pub eight_length : (n : ℕ) → length (eight_hex n) ≡ 8
unfolding eight_hex
eight_length n = hex_length 8 n

-- one decimal digit more is at most one byte more
decimal_more : (k j n : ℕ) → length (decimal_digits k (n / 10)) ≤ j → length (decimal_digits (suc k) n) ≤ suc j
unfolding decimal_digits
decimal_more k j n h = go (ltb n 10)
  where
    go : (b : Bool) → length (pick b ((48 + n) ∷ []) (decimal_digits k (n / 10) ++ ((48 + n % 10) ∷ []))) ≤ suc j
    go true = omega arith
    go false = omega (arith, one_more (decimal_digits k (n / 10)) (48 + n % 10))

-- at most k decimal digits are at most k bytes
pub decimal_length : (k n : ℕ) → length (decimal_digits k n) ≤ k
unfolding decimal_digits
decimal_length zero n = omega arith
decimal_length (suc k) n = decimal_more k k n (decimal_length k (n / 10))

-- a number in decimal is at most 20 bytes
pub decimal_twenty : (n : ℕ) → length (decimal_of n) ≤ 20
unfolding decimal_of
decimal_twenty n = decimal_length 20 n

-- a number below a power of ten has no more digits than the power says
pub decimal_below : (j k n : ℕ) → n < 10 ^ suc j → length (decimal_digits k n) ≤ suc j
unfolding decimal_digits
decimal_below j zero n h = omega arith
decimal_below zero (suc k) n h = rw (lt-ltb n 10 h) (omega arith)
decimal_below (suc j) (suc k) n h = decimal_more k (suc j) n (decimal_below j k (n / 10) (omega arith))

-- a number below a thousand is at most three bytes
pub decimal_three : (n : ℕ) → n < 1000 → length (decimal_of n) ≤ 3
unfolding decimal_of
decimal_three n h = decimal_below 2 20 n h

-- a digit below ten
digit_low : (n : ℕ) → n < 10 → hex_digit n ≡ 48 + n
unfolding hex_digit
digit_low n h = rw (lt-ltb n 10 h)

-- no decimal digits
pub decimal_none : (k n : ℕ) → k ≡ 0 → decimal_digits k n ≡ []
unfolding decimal_digits
decimal_none k n e = rw e

-- one decimal digit
pub decimal_one : (k n : ℕ) → (k ≡ 0 → ⊥) → n < 10 → decimal_digits k n ≡ hex_digit n ∷ []
unfolding decimal_digits
decimal_one zero n f h = absurd (f refl)
decimal_one (suc k) n f h = rw (lt-ltb n 10 h, digit_low n h)

-- the decimal digits in front, and behind them the last one
pub decimal_step : (k n : ℕ) → (k ≡ 0 → ⊥) → 10 ≤ n
    → decimal_digits k n ≡ decimal_digits (k - 1) (n / 10) ++ (hex_digit (n % 10) ∷ [])
unfolding decimal_digits
decimal_step zero n f h = absurd (f refl)
decimal_step (suc k) n f h = rw (le-ltb n 10 h, sub-one (suc k), digit_low (n % 10) (omega arith))

-- bytes put in front of one that is set are put with it
put_front : (d : List ℕ) (at : ℕ) (bs : List ℕ) (x : ℕ) → at + length bs < length d
    → put_at (set d (at + length bs) x) at bs ≡ put_at d at (bs ++ (x ∷ []))
unfolding put_at
put_front d at bs x h =
    let e : at + length (bs ++ (x ∷ [])) ≡ suc (at + length bs) = omega (arith, one_more bs x) in
    let q : length (take (at + length bs) d) ≡ at + length bs = length-take-le (at + length bs) d (omega arith) in
    rw (
      take-set-le at d (at + length bs) x (omega arith),
      set_split d (at + length bs) x h,
      drop_at (take (at + length bs) d) (x ∷ drop (suc (at + length bs)) d) (at + length bs) q,
      e,
    )
    (simp append_assoc)

-- where the last hex digit stands, the others are left to put in front of it
pub put_hex_step : (d : List ℕ) (at p n x : ℕ) → at < p → p ≤ length d → x ≡ hex_digit (n % 16)
    → put_at (set d (p - 1) x) at (hex_digits (p - 1 - at) (n / 16)) ≡ put_at d at (hex_digits (p - at) n)
unfolding hex_digits
put_hex_step d at p n x h l e = go (p - 1 - at) (omega arith) (omega arith)
  where
    go : (j : ℕ) → p - 1 ≡ at + j → p - at ≡ suc j
        → put_at (set d (p - 1) x) at (hex_digits j (n / 16)) ≡ put_at d at (hex_digits (p - at) n)
    go j a b =
        let f : length (hex_digits j (n / 16)) ≡ j = hex_length j (n / 16) in
        rw (a, b, e) (rw f at (put_front d at (hex_digits j (n / 16)) (hex_digit (n % 16)) (omega arith)))

-- where no hex digit is left to put, the list stays
pub put_hex_none : (d : List ℕ) (at k n : ℕ) → k ≡ 0 → at ≤ length d → put_at d at (hex_digits k n) ≡ d
unfolding hex_digits
put_hex_none d at k n e h = rw e (put_none d at h)

-- what a writer of hex digits asks
pub ruleset hex_steps = (put_hex_step, put_hex_none, hex_length)

-- what a writer of decimal digits asks
pub ruleset decimal_steps = (decimal_none, decimal_one, decimal_step, decimal_length, put_none, put_then, length-append)
