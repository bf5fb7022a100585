-- Two iterators that were compared: the answer is whether their lists are the same.
use mathlib.Core.Path.{◌≡◌, refl, sym, ◌∙◌, ap, ap₂}
use mathlib.Core.Bool.{Bool, true, false}
use mathlib.Core.List.{List, [], ◌∷◌, map}
use Prim.Native.Nat.{ℕ}
use native.Mathlib.Omega.{arith}
use lib.Dec.{eqb}
use lib.ListN.{length, get_or}
use borrow.Author.Tests.{eqb-true, eqb-false}
use Rattle.std.proofs.Common.{Option, Some, None}
use Rattle.std.specs.Iterator.{ComparesItemsByEq}
use Rattle.std.specs.List.{AllZip}
use Rattle.std.specs.Option.{MatchOption, IfSome}
use Rattle.std.proofs.lemmas.Iterator.{YieldsList}
use Rattle.std.proofs.lemmas.Iterator.Consumers.{YieldsList-turn, YieldsList-end}
use Rattle.laws.specs.Lists.{same}
use Rattle.laws.proofs.Tests.{same_equal, same_self}
use Rattle.text.proofs.RunLaws.{get_d_any}

-- lists that are not equal are not the same
same_not : (a b : List ℕ) → (a ≡ b → ⊥) → same a b ≡ false
same_not a b n = go (same a b) refl
  where
    go : (t : Bool) → same a b ≡ t → same a b ≡ false
    go true e = absurd (n (same_equal a b e))
    go false e = e

-- items that were found equal, place by place
zip_equal : (xs ys : List ℕ) → AllZip (λ x y. eqb x y ≡ true) xs ys → xs ≡ ys
zip_equal [] [] z = refl
zip_equal [] (y ∷ ys) z = absurd z
zip_equal (x ∷ xs) [] z = absurd z
zip_equal (x ∷ xs) (y ∷ ys) z = ap₂ ◌∷◌ (eqb-true x y z.0) (zip_equal xs ys z.1)

pub map_same : (xs : List ℕ) → map (λ x. x) xs ≡ xs
map_same [] = refl
map_same (x ∷ xs) = ap (◌∷◌ x) (map_same xs)

module _ {S T U : Type 0} {steps : S → Option ℕ → S → Type 0} {others : T → Option ℕ → T → Type 0} (becomes : U → T → Type 0) where
  pub eq_told : {s : S} {other : U} {a b : List ℕ} {r : Bool} → YieldsList steps (λ x. x) s a → ((it : T) → becomes other it → YieldsList others (λ x. x) it b)
      → ComparesItemsByEq steps becomes others s other eqb r → r ≡ same a b
  eq_told {s} {other} {a} {b} {r} f g (it, xs, ys, o, p, u, v, w, (t, yx, sx), (q, yy, sy), z, l) = go o p sx sy l
    where
      h : YieldsList others (λ x. x) it b
      h = g it w

      e : xs ≡ ys
      e = zip_equal xs ys z

      go : (o p : Option ℕ) → steps t o u → others q p v → MatchOption o (MatchOption p (r ≡ true) (λ _. r ≡ false)) (λ x. (r ≡ false) × IfSome p (λ y. eqb x y ≡ false)) → r ≡ same a b
      go None None i j k =
          let m = YieldsList-end f xs t yx None u refl i in
          let n = YieldsList-end h ys q yy None v refl j in
          k ∙ sym (ap₂ same (sym m.0 ∙ map_same xs ∙ e) (sym n.0 ∙ map_same ys) ∙ same_self ys)
      go None (Some y) i j k =
          let m = YieldsList-end f xs t yx None u refl i in
          let n = YieldsList-turn h ys q yy (Some y) v y refl j in
          k ∙ sym (same_not a b (λ d. omega (arith, m.1, n.0, ap length d, ap length e)))
      go (Some x) None i j k =
          let m = YieldsList-turn f xs t yx (Some x) u x refl i in
          let n = YieldsList-end h ys q yy None v refl j in
          k.0 ∙ sym (same_not a b (λ d. omega (arith, m.0, n.1, ap length d, ap length e)))
      go (Some x) (Some y) i j k =
          let m = YieldsList-turn f xs t yx (Some x) u x refl i in
          let n = YieldsList-turn h ys q yy (Some y) v y refl j in
          k.0 ∙ sym (same_not a b (λ d. eqb-false x y k.1 (m.1 ∙ ap₂ (λ l n. get_or l n x) d (ap length e) ∙ get_d_any b (length ys) x y n.0 ∙ sym n.1)))
