-- The laws of a list of refusals: where none is given, none applied, and the other way round; and of two lists in a row, which one decides.
use mathlib.Core.Path.{◌≡◌, refl, sym, ◌∙◌, ap}
use mathlib.Core.Bool.{Bool, true, false, not, true≢false}
use mathlib.Core.List.{List, [], ◌∷◌, ◌++◌}
use Prim.Native.Nat.{ℕ, zero, suc}
use lib.Dec.{eqb}
use lib.ListN.{get_or}
use borrow.Author.Tests.{not-true, eq-eqb}
use Rattle.laws.specs.Choose.{pick}
use Rattle.laws.specs.Lists.{every}
use Rattle.laws.specs.First.{Row, first_of, tests}
use Rattle.laws.proofs.Tests.{every_head, every_tail}

module _ {A : Type 0} where
  -- the first row does not apply, and neither does one of the others
  fails : (r : Row A) (rs : List (Row A)) → r.applies ≡ false → ((k : ℕ) → get_or (tests rs) k false ≡ false)
      → (k : ℕ) → get_or (tests (r ∷ rs)) k false ≡ false
  fails r rs e f zero = e
  fails r rs e f (suc k) = f k

  -- where what comes back passes a test that nothing given by a row passes, no row applied
  pub none_applied : (f : A → Bool) (rows : List (Row A)) (other : A) → every (λ r. not (f r.gives)) rows ≡ true
      → f (first_of rows other) ≡ true → (k : ℕ) → get_or (tests rows) k false ≡ false
  unfolding first_of
  none_applied f [] other e h = λ k. refl
  none_applied f (r ∷ rs) other e h = go r.applies refl h (none_applied f rs other (every_tail (λ r. not (f r.gives)) r rs e))
    where
      go : (b : Bool) → r.applies ≡ b → f (pick b r.gives (first_of rs other)) ≡ true
          → (f (first_of rs other) ≡ true → (k : ℕ) → get_or (tests rs) k false ≡ false) → (k : ℕ) → get_or (tests (r ∷ rs)) k false ≡ false
      go true t h rest = absurd (true≢false (sym h ∙ not-true (f r.gives) (every_head (λ r. not (f r.gives)) r rs e)))
      go false t h rest = fails r rs t (rest h)

  -- where no row applies, what comes back is what no row gives
  pub none_applies : (rows : List (Row A)) (other : A) → ((k : ℕ) → get_or (tests rows) k false ≡ false) → first_of rows other ≡ other
  unfolding first_of
  none_applies [] other f = refl
  none_applies (r ∷ rs) other f = rw (f 0) (none_applies rs other (λ k. f (suc k)))

  -- rows behind others are tried where none of the others applies
  pub first_append : (rows more : List (Row A)) (other : A) → first_of rows (first_of more other) ≡ first_of (rows ++ more) other
  unfolding first_of
  first_append [] more other = refl
  first_append (r ∷ rs) more other = ap (pick r.applies r.gives) (first_append rs more other)

-- where rows of numbers other than 0 come to 0, no row applied
pub none_refused : (rows : List (Row ℕ)) → every (λ r. not (eqb r.gives 0)) rows ≡ true → first_of rows 0 ≡ 0
    → (k : ℕ) → get_or (tests rows) k false ≡ false
none_refused rows e h = none_applied (λ n. eqb n 0) rows 0 e (eq-eqb (first_of rows 0) 0 h)
