-- The laws of a number that is told where it is below a bound: when it is told, and what that says of it.
use mathlib.Core.Path.{◌≡◌, refl}
use mathlib.Core.Bool.{Bool, true, false}
use Prim.Native.Nat.{ℕ, ◌<◌, ◌≤◌}
use lib.Dec.{ltb}
use borrow.Author.Tests.{lt-ltb, le-ltb, ltb-true, ltb-false}
use Rattle.std.proofs.Common.{Some, None}
use Rattle.laws.specs.Choose.{pick, below}

module _ (n k : ℕ) where
  -- a number below the bound is told
  pub below_some : k < n → below n k ≡ Some k
  unfolding below
  below_some h = rw (lt-ltb k n h)

  -- another is not
  pub below_none : n ≤ k → below n k ≡ None
  unfolding below
  below_none h = rw (le-ltb k n h)

  -- one that is told is that number, and below the bound
  pub told_is : {j : ℕ} → Some j ≡ below n k → j ≡ k
  unfolding below
  told_is {j} e = go (ltb k n) e
    where
      go : (b : Bool) → Some j ≡ pick b (Some k) None → j ≡ k
      go true t = cc
      go false t = cc

  pub told_below : {j : ℕ} → Some j ≡ below n k → k < n
  unfolding below
  told_below {j} e = go (ltb k n) refl e
    where
      go : (b : Bool) → ltb k n ≡ b → Some j ≡ pick b (Some k) None → k < n
      go true t w = ltb-true k n t
      go false t w = cc

  -- and where none is told it is not below
  pub untold : None ≡ below n k → n ≤ k
  unfolding below
  untold e = go (ltb k n) refl e
    where
      go : (b : Bool) → ltb k n ≡ b → None ≡ pick b (Some k) None → n ≤ k
      go true t w = cc
      go false t w = ltb-false k n t
