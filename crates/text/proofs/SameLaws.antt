-- The laws of comparing two texts: by their lengths, and for texts of one length from a position on.
use mathlib.Core.Path.{◌≡◌, refl, ap}
use mathlib.Core.Bool.{Bool, true, false}
use mathlib.Core.List.{List, [], ◌∷◌}
use Prim.Native.Nat.{ℕ, suc, ◌+◌, ◌<◌, ◌≤◌}
use native.Mathlib.Numerals.{add-one}
use lib.Dec.{eqb}
use lib.ListN.{length, get_or, drop, drop_of_length-le}
use lib.Seq.{drop-cons}
use borrow.Author.Tests.{eq-eqb, ne_eqb}
use Rattle.laws.specs.Choose.{pick}
use Rattle.laws.specs.Lists.{same}

-- texts of other lengths are not the same
pub same_other : (s t : List ℕ) → (length s ≡ length t → ⊥) → same s t ≡ false
unfolding same
same_other [] [] h = absurd (h refl)
same_other [] (y ∷ ys) h = refl
same_other (x ∷ xs) [] h = refl
same_other (x ∷ xs) (y ∷ ys) h = go (eqb x y) (same_other xs ys (λ e. h (ap suc e)))
  where
    go : (b : Bool) → same xs ys ≡ false → pick b (same xs ys) false ≡ false
    go true r = r
    go false r = refl

module _ (s t : List ℕ) (l : length s ≡ length t) (i : ℕ) where
  -- two bytes that are equal leave it to the bytes behind them
  pub same_on : i < length s → get_or s i 0 ≡ get_or t i 0 → same (drop i s) (drop i t) ≡ same (drop (i + 1) s) (drop (i + 1) t)
  unfolding same
  same_on h e = rw (drop-cons s i 0 h, drop-cons t i 0 (rw l at h), eq-eqb _ _ e, add-one)

  -- two bytes that differ decide it
  pub same_off : i < length s → (get_or s i 0 ≡ get_or t i 0 → ⊥) → same (drop i s) (drop i t) ≡ false
  unfolding same
  same_off h e = rw (drop-cons s i 0 h, drop-cons t i 0 (rw l at h), ne_eqb _ _ e)

  -- at the end they are the same
  pub same_end : length s ≤ i → same (drop i s) (drop i t) ≡ true
  unfolding same
  same_end h = rw (drop_of_length-le s h, drop_of_length-le t (rw l at h))

-- what the comparison goes by
pub ruleset same_steps = (same_other, same_on, same_off, same_end)
