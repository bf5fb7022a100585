-- A table that lists what a rule gives at 0, 1, 2 and so on holds the rule at each of its places. That a table written out is such
-- a list is computed, once, and so is that two rules give the same list.
use mathlib.Core.Path.{◌≡◌, sym, ◌∙◌, ap}
use mathlib.Core.List.{List}
use Prim.Native.Nat.{ℕ, zero, suc, ◌+◌, ◌<◌}
use native.Mathlib.Nat.{add-zero, zero-add, add-suc, suc-add, le_of_suc-le-suc, not-suc-le-zero}
use lib.ListN.{get_or}
use Rattle.laws.specs.Lists.{listed}

module _ {A : Type 0} where
  from : (f : ℕ → A) (d : A) (n i k : ℕ) → k < n → get_or (listed f i n) k d ≡ f (i + k)
  from f d zero i k h = absurd (not-suc-le-zero h)
  from f d (suc n) i zero h = ap f (sym (add-zero i))
  from f d (suc n) i (suc k) h = from f d n (suc i) k (le_of_suc-le-suc h) ∙ ap f (suc-add i k ∙ sym (add-suc i k))

  -- the entry at a place is what the rule gives there
  pub at : (f : ℕ → A) (d : A) (n k : ℕ) → k < n → get_or (listed f 0 n) k d ≡ f k
  at f d n k h = from f d n 0 k h ∙ ap f (zero-add k)

  -- two rules whose lists are the same give the same at each place
  pub agree : (f g : ℕ → A) (n : ℕ) → listed f 0 n ≡ listed g 0 n → (k : ℕ) → k < n → f k ≡ g k
  agree f g n e k h = sym (at f (f 0) n k h) ∙ ap (λ (l : List A). get_or l k (f 0)) e ∙ at g (f 0) n k h
