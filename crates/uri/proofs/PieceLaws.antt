-- The pieces of a text are those that `split` gives, one by one.
use mathlib.Core.Path.{◌≡◌, refl, sym}
use mathlib.Core.Bool.{Bool, true, false, cond}
use mathlib.Core.List.{List, [], ◌∷◌, ◌++◌}
use Prim.Native.Nat.{ℕ, ◌<◌}
use native.Mathlib.Numerals.{add-one}
use native.Mathlib.Omega.{arith}
use lib.Dec.{eqb}
use lib.ListN.{length, drop, drop_of_length-le}
use lib.Seq.{drop-cons}
use denote.Param.Members.{Mut}
use denote.Ref.{Bor}
use Rattle.std.proofs.Common.{Option, Some, None}
use Rattle.std.specs.Fn.{CalledAt}
use Rattle.std.specs.Iterator.{Yields}
use Rattle.std.specs.Slice.Iter.{split_steps, split_rest, split_done, split_callee}
use Rattle.std.specs.List.{slice_split, onto_first}
use Rattle.std.proofs.lemmas.Iterator.{YieldsList}
use Rattle.std.proofs.lemmas.Iterator.Consumers.{YieldsList-turn, YieldsList-end}
use Rattle.std.proofs.lemmas.Iterator.Splits.{YieldsList-from_slice_split}
use Rattle.std.proofs.lemmas.List.{length_push}
use Rattle.laws.specs.Choose.{pick}
use Rattle.laws.specs.Lists.{empty}
use Rattle.uri.specs.Pieces.{on_first, pieces}

pub pieces_split : (c : ℕ) (s : List ℕ) → slice_split (λ b. eqb b c) s ≡ pieces c s
unfolding pieces on_first
pieces_split c [] = refl
pieces_split c (x ∷ xs) = rw (pieces_split c xs) (go (eqb x c) (pieces c xs))
  where
    first : (ps : List (List ℕ)) → onto_first x ps ≡ on_first x ps
    first [] = refl
    first (p ∷ ps) = refl

    go : (b : Bool) (ps : List (List ℕ)) → cond b ([] ∷ ps) (onto_first x ps) ≡ pick b ([] ∷ ps) (on_first x ps)
    go true ps = refl
    go false ps = first ps

-- a text that is cut at the bytes c yields its pieces
pub yields_pieces : {F : Type 0} {s : _} (g : Mut F (Bor ℕ × Unit {0}) Bool) (c : ℕ) {f : F} (xs : List ℕ) → split_rest s ≡ xs → split_done s ≡ false → split_callee s ≡ f
    → ((x : ℕ) (b : Bool) (q : F) → CalledAt g f x b q → (q ≡ f) × (b ≡ eqb x c)) → YieldsList (split_steps g) (λ x. x.now) s (pieces c xs)
yields_pieces g c xs r d e k = rw (sym (pieces_split c xs)) (YieldsList-from_slice_split g (λ b. eqb b c) xs r d e k)

-- what is left of a list that an iterator yields
module _ {S A B : Type 0} {steps : S → Option A → S → Type 0} {v : A → B} {s : S} {all : List B} (road : YieldsList steps v s all) (xs : List A) (t : S) (y : Yields steps s xs t) (r : Option A) (u : S) where
  -- where an item comes, it stands first
  pub left_turn : (x : A) → r ≡ Some x → steps t r u → drop (length xs) all ≡ v x ∷ drop (length (xs ++ x ∷ [])) all
  left_turn x e i =
      let h = YieldsList-turn road xs t y r u x e i in
      rw (drop-cons all (length xs) (v x) h.0, ← h.1, length_push, add-one)

  -- where none comes, nothing is left
  pub left_end : r ≡ None → steps t r u → drop (length xs) all ≡ []
  left_end e i = let h = YieldsList-end road xs t y r u e i in drop_of_length-le all (omega (arith, h.1))

-- there is always a piece
pub pieces_some : (c : ℕ) (s : List ℕ) → 0 < length (pieces c s)
unfolding pieces on_first
pieces_some c [] = omega arith
pieces_some c (x ∷ xs) = go (eqb x c) (pieces c xs)
  where
    go : (b : Bool) (ps : List (List ℕ)) → 0 < length (pick b ([] ∷ ps) (on_first x ps))
    go true ps = omega arith
    go false [] = omega arith
    go false (p ∷ ps) = omega arith

-- a list that has a length is not empty
pub empty_some : {A : Type 0} (xs : List A) → (length xs ≡ 0 → ⊥) → empty xs ≡ false
unfolding empty
empty_some [] n = absurd (n refl)
empty_some (x ∷ xs) n = refl
