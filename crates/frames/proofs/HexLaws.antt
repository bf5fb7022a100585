-- The laws of a line of hex digits: what the tests settle, and the bytes that its pairs make.
use mathlib.Core.Path.{◌≡◌, refl}
use mathlib.Core.Bool.{Bool, true, false, ◌&&◌}
use mathlib.Core.List.{List, [], ◌∷◌}
use Prim.Native.Nat.{ℕ, zero, suc, ◌+◌, ◌*◌, ◌/◌, ◌%◌, ◌<◌, ◌≤◌}
use native.Mathlib.Nat.{zero-add}
use native.Mathlib.Omega.{arith}
use lib.Dec.{eqb}
use lib.ListN.{length, get_or, take, set}
use lib.Seq.{take_all}
use borrow.Author.Tests.{ltb-true, leb-true, lt-leb}
use Rattle.std.specs.List.{list_all}
use Rattle.laws.specs.Lists.{every}
use Rattle.laws.specs.Wrote.{Wrote}
use Rattle.laws.proofs.Wrote.{wrote_more}
use Rattle.laws.proofs.Tests.{and_left, and_right, every_at}
use Rattle.text.specs.Digits.{hex_value}
use Rattle.listing.specs.Frames.{is_hex, hex_bytes}
use Rattle.frames.specs.Lines.{is_hex_digit}

-- the test asked of every byte
pub digits_all : (l : List ℕ) → list_all is_hex_digit l ≡ every is_hex_digit l
unfolding every
digits_all [] = refl
digits_all (b ∷ l) = rw (digits_all l)

-- a test that fails behind another: they do not hold together
fails_behind : (a : Bool) {b : Bool} → b ≡ false → (a && b) ≡ false
fails_behind true e = e
fails_behind false e = refl

module _ (l : List ℕ) where
  -- a line of more than 8,210 digits is not so built
  pub hex_long : 8210 < length l → is_hex l ≡ false
  unfolding is_hex
  hex_long h = fails_behind (every is_hex_digit l) (fails_behind (eqb (length l % 2) 0) (lt-leb (length l) 8210 h))

  module _ (e : is_hex l ≡ true) where
    -- the digits of a line that is so built have values below 16
    pub digit_value : (i : ℕ) → i < length l → hex_value (get_or l i 0) < 16
    unfolding is_hex
    digit_value i h = ltb-true (hex_value (get_or l i 0)) 16 (every_at is_hex_digit l i 0 (and_left _ _ e) h)

    -- and they are at most 8,210
    pub digits_most : length l ≤ 8210
    unfolding is_hex
    digits_most = leb-true (length l) 8210 (and_right (eqb (length l % 2) 0) _ (and_right (every is_hex_digit l) _ e))

-- a byte for each two digits
pub bytes_length : (l : List ℕ) → length (hex_bytes l) ≡ length l / 2
unfolding hex_bytes
bytes_length [] = refl
bytes_length (a ∷ []) = refl
bytes_length (a ∷ b ∷ l) = omega (arith, bytes_length l)

-- each byte is that of its two digits
pub byte_of_pair : (l : List ℕ) (i : ℕ) → i * 2 + 1 < length l
    → get_or (hex_bytes l) i 0 ≡ hex_value (get_or l (i * 2) 0) * 16 + hex_value (get_or l (i * 2 + 1) 0)
unfolding hex_bytes
byte_of_pair [] i h = absurd (omega arith)
byte_of_pair (a ∷ []) i h = absurd (omega arith)
byte_of_pair (a ∷ b ∷ l) zero h = refl
byte_of_pair (a ∷ b ∷ l) (suc i) h =
    let p : suc i * 2 ≡ suc (suc (i * 2)) = omega arith in
    let q : suc (suc (i * 2)) + 1 ≡ suc (suc (i * 2 + 1)) = omega arith in
    rw (p, q) (byte_of_pair l i (omega arith))

-- one more pair written
pub pair_more : {d d' : List ℕ} (l : List ℕ) (i v : ℕ) → i * 2 + 1 < length l → i < length d
    → v ≡ hex_value (get_or l (i * 2) 0) * 16 + hex_value (get_or l (i * 2 + 1) 0) → Wrote d 0 (take i (hex_bytes l)) d' (0 + i)
    → Wrote d 0 (take (i + 1) (hex_bytes l)) (set d' i v) (0 + (i + 1))
pair_more {d} {d'} l i v h k e w =
    rw (e, ← byte_of_pair l i h)
    (rw (zero-add i) at (wrote_more (hex_bytes l) i (omega (arith, bytes_length l)) (omega arith) w))

-- all pairs written
pub pairs_all : {d d' : List ℕ} (l : List ℕ) {i : ℕ} → i ≡ length l / 2 → Wrote d 0 (take i (hex_bytes l)) d' (0 + i)
    → Wrote d 0 (hex_bytes l) d' (length l / 2)
pairs_all {d} {d'} l {i} e w = rw (← e) (rw (zero-add i, take_all i (hex_bytes l) (omega (arith, bytes_length l))) at w)
