-- The laws of opening: what the test of the sizes decides.
use mathlib.Core.Path.{◌≡◌, sym, ◌∙◌}
use mathlib.Core.Bool.{Bool, true, false}
use mathlib.Core.List.{List}
use Prim.Native.Nat.{ℕ}
use lib.ListN.{length, replicate}
use Rattle.publish.specs.Refusals.{is_bad_size}
use Rattle.table.specs.Looked.{open_result, open_store}

module _ (n : ℕ) (store : List ℕ) {bad : Bool} (asked : bad ≡ is_bad_size n (length store)) where
  -- a bad size is refused with 2, and the store stays
  pub open_refused : bad ≡ true → (2 ≡ open_result n store) × (store ≡ open_store n store)
  unfolding open_result open_store
  open_refused e = (rw (sym asked ∙ e), rw (sym asked ∙ e))

  -- a good one is not, and the store is zeroed
  pub open_zeroed : bad ≡ false → {s : List ℕ} → s ≡ replicate (length store) 0 → (0 ≡ open_result n store) × (s ≡ open_store n store)
  unfolding open_result open_store
  open_zeroed e z = (rw (sym asked ∙ e), rw (sym asked ∙ e) z)
