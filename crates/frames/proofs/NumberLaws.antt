-- The numbers in a frame, high first.
use mathlib.Core.Path.{◌≡◌, refl, sym, ◌∙◌, ap}
use mathlib.Core.List.{List, [], ◌∷◌}
use Prim.Native.Nat.{ℕ, suc, ◌+◌, ◌-◌, ◌*◌, ◌<◌, ◌≤◌}
use native.Mathlib.Omega.{arith}
use native.Mathlib.Numerals.{add-one}
use lib.ListN.{length, get_or, take, drop}
use lib.Seq.{drop-cons}
use Rattle.std.specs.Int.{w32, from_be_bytes}
use Rattle.laws.specs.Lists.{part}
use Rattle.listing.specs.Frames.{high_first}

-- the byte at a position, and those behind it
next : (s : List ℕ) (i j : ℕ) → i < length s → i + 1 ≡ j → drop i s ≡ get_or s i 0 ∷ drop j s
next s i j h e = drop-cons s i 0 h ∙ ap (λ (n : ℕ). get_or s i 0 ∷ drop n s) (sym (add-one i) ∙ e)

-- the four bytes from a position on, and those behind them
four_more : (k : ℕ) (s : List ℕ) (i : ℕ) → i + 4 ≤ length s
    → take (suc (suc (suc (suc k)))) (drop i s)
    ≡ get_or s i 0 ∷ get_or s (i + 1) 0 ∷ get_or s (i + 2) 0 ∷ get_or s (i + 3) 0 ∷ take k (drop (i + 4) s)
four_more k s i h =
    rw (
      next s i (i + 1) (omega arith) refl,
      next s (i + 1) (i + 2) (omega arith) (omega arith),
      next s (i + 2) (i + 3) (omega arith) (omega arith),
      next s (i + 3) (i + 4) (omega arith) (omega arith),
    )

module _ (s : List ℕ) (i : ℕ) where
  -- the number of four bytes
  pub four_is : i + 4 ≤ length s
      → from_be_bytes w32 (get_or s i 0 ∷ get_or s (i + 1) 0 ∷ get_or s (i + 2) 0 ∷ get_or s (i + 3) 0 ∷ []) ≡ high_first 0 (part s i (i + 4))
  unfolding part high_first
  four_is h = let n : i + 4 - i ≡ 4 = omega arith in rw (n, four_more 0 s i h) (omega arith)

  -- the first four bytes and the last four, put together
  halves : i + 8 ≤ length s
      → high_first 0 (part s i (i + 4)) * 4294967296 + high_first 0 (part s (i + 4) (i + 4 + 4)) ≡ high_first 0 (part s i (i + 8))
  unfolding part high_first
  halves h =
      let n : i + 8 - i ≡ 8 = omega arith in
      let l : i + 4 - i ≡ 4 = omega arith in
      let m : i + 4 + 4 - (i + 4) ≡ 4 = omega arith in
      rw (n, l, m, four_more 4 s i (omega arith), four_more 0 s i (omega arith), four_more 0 s (i + 4) (omega arith)) (omega arith)

  -- the number of eight is made of that of the first four and that of the last four
  pub eight_is : {a b : ℕ} → i + 8 ≤ length s → a ≡ high_first 0 (part s i (i + 4)) → b ≡ high_first 0 (part s (i + 4) (i + 4 + 4))
      → a * 4294967296 + b ≡ high_first 0 (part s i (i + 8))
  eight_is h p q = rw (p, q) (halves h)
