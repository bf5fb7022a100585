-- Different success numbers have different tags, and the next tag is the last plus the step.
use Rattle.std.proofs.Common.{◌≡◌, ℕ, ◌+◌, ◌*◌, ◌%◌, ◌<◌, ◌≤◌, arith}
use Rattle.tag.specs.Tag.{tag_of}

-- a tag is a 32-bit number
pub tag_below : (start n : ℕ) → tag_of start n < 4294967296
unfolding tag_of
tag_below start n = omega arith

-- the next tag is the last plus that step, and the sum may run over on purpose
pub tag_next : (start n : ℕ) → tag_of start (n + 1) ≡ (tag_of start n + 2654435769) % 4294967296
unfolding tag_of
tag_next start n = omega arith

-- two numbers below 2 ^ 32 that differ by a multiple of it are one
pub low : (n m a b : ℕ) → n < 4294967296 → m < 4294967296 → n + 4294967296 * a ≡ m + 4294967296 * b → n ≡ m
low n m a b hn hm e = omega arith

-- the step is odd, so it has an inverse: 2654435769 * 340573321 is 1 + 210485888 * 2 ^ 32, and a number is read off its tag
pub tag_once : (start n m : ℕ) → n < 4294967296 → m < 4294967296 → tag_of start n ≡ tag_of start m → n ≡ m
unfolding tag_of
tag_once start n m hn hm e = omega arith

-- n from 1 to 4294967295 gives different tags
pub tags_differ_lem : (start n m : ℕ) → 1 ≤ n → n < m → m ≤ 4294967295 → tag_of start n ≡ tag_of start m → ⊥
unfolding tag_of
tags_differ_lem start n m one less most e = omega arith
