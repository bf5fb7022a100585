-- A test that passes at each number below n passes at any one of them: the test is computed, once.
use mathlib.Core.Path.{◌≡◌, subst}
use mathlib.Core.Logic.{◌⊎◌, inl, inr, ⊎_elim}
use mathlib.Core.Bool.{Bool, true, false, ◌&&◌}
use Prim.Native.Nat.{ℕ, zero, suc, ◌<◌}
use native.Mathlib.Nat.{not-suc-le-zero}
use native.Mathlib.Decide.{dec_lt}
use native.Mathlib.Omega.{arith}
use lib.Dec.{T}

-- the test passes at every number below n
abbrev pub all : (ℕ → Bool) → ℕ → Bool
all f zero = true
all f (suc n) = f n && all f n

pub both : (a b : Bool) → T a → T b → T (a && b)
both true b s t = t
both false b s t = absurd s

pub both_left : (a b : Bool) → T (a && b) → T a
both_left true b t = tt
both_left false b t = t

pub both_right : (a b : Bool) → T (a && b) → T b
both_right true b t = t
both_right false b t = absurd t

split : (n k : ℕ) → k < suc n → (k < n) ⊎ (n ≡ k)
split n k h = go (dec_lt k n)
  where
    go : Dec (k < n) → (k < n) ⊎ (n ≡ k)
    go (yes p) = inl p
    go (no q) = inr (omega arith)

pub below : (f : ℕ → Bool) (n : ℕ) → T (all f n) → (k : ℕ) → k < n → T (f k)
below f zero t k h = absurd (not-suc-le-zero h)
below f (suc n) t k h =
    ⊎_elim (λ w. below f n (both_right (f n) (all f n) t) k w) (λ e. subst (λ (m : ℕ). T (f m)) e (both_left (f n) (all f n) t)) (split n k h)
