-- How a text is compared with the address that some bytes hold, byte by byte; and that `==` of two texts says whether they are the same.
use mathlib.Core.Path.{◌≡◌, refl}
use mathlib.Core.Bool.{Bool, true, false, ◌&&◌, not}
use mathlib.Core.List.{List, [], ◌∷◌}
use Prim.Native.Nat.{ℕ, zero, suc, ◌+◌, ◌<◌, ◌≤◌}
use native.Mathlib.Numerals.{add-one}
use lib.Dec.{eqb}
use lib.Pointwise.{pointwise}
use lib.ListN.{length, get_or, take, drop, drop_of_length-le}
use lib.Seq.{drop-cons}
use borrow.Author.Tests.{ne_eqb}
use Rattle.laws.specs.Choose.{pick}
use Rattle.laws.specs.Lists.{same}
use Rattle.text.specs.Runs.{run, front}
use Rattle.record.specs.Address.{same_address}
use Rattle.record.proofs.AddressLaws.{not_zero}

-- what is held from a position on: the byte there and what is held behind it, or nothing where it is zero or the bytes end
front_from : (s : List ℕ) (i : ℕ) → front not_zero (drop i s) ≡ pick (not_zero (get_or s i 0)) (get_or s i 0 ∷ front not_zero (drop (suc i) s)) []
unfolding front run
front_from [] zero = refl
front_from [] (suc i) = refl
front_from (x ∷ s) zero = go (not_zero x)
  where
    go : (b : Bool) → take (pick b (suc (run not_zero s)) 0) (x ∷ s) ≡ pick b (x ∷ take (run not_zero s) s) []
    go true = refl
    go false = refl
front_from (x ∷ s) (suc i) = front_from s i

module _ (a s : List ℕ) (i : ℕ) where
  -- whether the rests from a position on are the same
  abbrev pub rests : Bool
  rests = same_address (drop i a) (front not_zero (drop i s))

  -- they differ where the text has a byte and nothing more is held
  pub held_over : i < length a → {h : ℕ} → h ≡ get_or s i 0 → h ≡ 0 → rests ≡ false
  unfolding same_address same
  held_over l e z = rw (drop-cons a i 0 l, front_from s i, ← e, z)

  -- a byte that is held is compared, and then the rests behind it
  pub held_on : i < length a → {h : ℕ} → h ≡ get_or s i 0 → (h ≡ 0 → ⊥) → {b : Bool} → eqb (get_or a i 0) h ≡ b
      → rests ≡ pick b (same_address (drop (i + 1) a) (front not_zero (drop (i + 1) s))) false
  unfolding same_address same
  held_on l {h} e n k = rw (add-one i, drop-cons a i 0 l, front_from s i, ← e, ne_eqb h 0 n, k)

  -- at the text's end they are the same where nothing more is held
  pub held_end : length a ≤ i → rests ≡ eqb (get_or s i 0) 0
  unfolding same_address same
  held_end h = rw (drop_of_length-le a h, front_from s i) (go (eqb (get_or s i 0) 0))
    where
      go : (b : Bool) → same [] (pick (not b) (get_or s i 0 ∷ front not_zero (drop (suc i) s)) []) ≡ b
      go true = refl
      go false = refl

-- texts that are compared place by place are the same exactly if they agree at each
pub same_pointwise : (s t : List ℕ) → pointwise eqb s t ≡ same s t
unfolding same
same_pointwise [] [] = refl
same_pointwise [] (y ∷ t) = refl
same_pointwise (x ∷ s) [] = refl
same_pointwise (x ∷ s) (y ∷ t) = rw (same_pointwise s t) (go (eqb x y))
  where
    go : (b : Bool) → (b && same s t) ≡ pick b (same s t) false
    go true = refl
    go false = refl
