-- The laws of the first place at which a test holds, where it is told as std tells it.
use mathlib.Core.Path.{◌≡◌, refl, sym, ◌∙◌}
use mathlib.Core.Bool.{Bool, true, false, cond}
use mathlib.Core.List.{List}
use Prim.Native.Nat.{ℕ, suc, ◌+◌}
use native.Mathlib.Omega.{arith}
use lib.Dec.{ltb}
use lib.ListN.{length}
use borrow.Author.Tests.{ltb-false}
use Rattle.std.proofs.Common.{Some, None, unwrap_or, is_some, position}
use Rattle.std.proofs.lemmas.List.Recursion.{is_position_or_len}
use Rattle.laws.specs.Choose.{pick}
use Rattle.laws.specs.Lists.{place_of}
use Rattle.laws.proofs.Lists.{place_within}

module _ {A : Type 0} (f : A → Bool) where
  place_turn : (b : Bool) (n : ℕ) → pick b 0 (suc n) ≡ cond b 0 (1 + n)
  place_turn true n = refl
  place_turn false n = omega arith

  -- the first place at which a test holds is told where there is one
  position_is : (xs : List A) → position f xs ≡ pick (ltb (place_of f xs) (length xs)) (Some (place_of f xs)) None
  unfolding place_of
  position_is xs = rw (is_position_or_len (place_of f) f refl (λ x xs. place_turn (f x) (place_of f xs)) xs) refl

  -- and otherwise it is past the end
  pub place_or_end : (xs : List A) {n : ℕ} → length xs ≡ n → unwrap_or (position f xs) n ≡ place_of f xs
  place_or_end xs h = rw (position_is xs, ← h) (go (ltb (place_of f xs) (length xs)) refl)
    where
      go : (b : Bool) → ltb (place_of f xs) (length xs) ≡ b → unwrap_or (pick b (Some (place_of f xs)) None) (length xs) ≡ place_of f xs
      go true e = refl
      go false e = omega (arith, ltb-false _ _ e, place_within f xs)

  -- the one that is told is that place
  pub told_place : (xs : List A) (i : ℕ) → position f xs ≡ Some i → i ≡ place_of f xs
  told_place xs i e = go (ltb (place_of f xs) (length xs)) (sym (position_is xs) ∙ e)
    where
      go : (b : Bool) → pick b (Some (place_of f xs)) None ≡ Some i → i ≡ place_of f xs
      go true t = cc
      go false t = cc

  -- whether there is one
  pub is_placed : (xs : List A) → is_some (position f xs) ≡ ltb (place_of f xs) (length xs)
  is_placed xs = rw (position_is xs) (go (ltb (place_of f xs) (length xs)))
    where
      go : (b : Bool) → is_some (pick b (Some (place_of f xs)) None) ≡ b
      go true = refl
      go false = refl
