-- The laws of the times: what Expires says fits 32 bits, and the time granted is the smaller of two.
use mathlib.Core.Path.{◌≡◌, ◌∙◌, ap}
use mathlib.Core.List.{List}
use Prim.Native.Nat.{ℕ, ◌<◌, ◌≤◌, min}
use native.Mathlib.Decide.{dec_lt}
use native.Mathlib.Omega.{arith}
use lib.Dec.{ltb}
use borrow.Author.Tests.{lt-ltb, le-ltb}
use Rattle.laws.specs.Choose.{pick}
use Rattle.text.specs.Number.{value_or}
use Rattle.std.proofs.Common.{Some}
use Rattle.request.specs.Names.{Expires}
use Rattle.request.specs.Head.{value_named}
use Rattle.request.specs.Fields.{expires}
use Rattle.request.specs.declared.Head.{Head}
use Rattle.request.proofs.FieldLaws.{value_most}
use Rattle.record.specs.Places.{smaller}

-- Expires says no more than its bound
pub expires_most : (s : List ℕ) (h : Head) (n : ℕ) → expires s h ≡ Some n → n ≤ 4294967295
unfolding expires value_or
expires_most s h n e = rw e at (value_most 4294967295 (value_named Expires s h))

-- the smaller of two numbers is the least of them
min_smaller : (a b : ℕ) → min a b ≡ smaller a b
unfolding smaller
min_smaller a b = go (dec_lt a b)
  where
    go : Dec (a < b) → min a b ≡ pick (ltb a b) a b
    go (yes h) = rw (lt-ltb a b h) (omega arith)
    go (no h) = let past : b ≤ a = omega arith in rw (le-ltb a b past) (omega arith)

-- so what is granted is the smaller of what is requested and the most
pub granted_is : (requested most : ℕ) {x y : ℕ} → y ≡ most → x ≡ min requested y → x ≡ smaller requested most
granted_is requested most e f = f ∙ ap (min requested) e ∙ min_smaller requested most
