-- The laws of "the first that applies": it holds for any list of rows.
use mathlib.Core.Path.{◌≡◌, refl, sym, ◌∙◌, ap}
use mathlib.Core.Bool.{Bool, true, false, true≢false}
use mathlib.Core.List.{List, [], ◌∷◌}
use mathlib.Core.Logic.{◌↔◌}
use Prim.Native.Nat.{ℕ, zero, suc, ◌<◌, zero-le, suc-le-suc}
use native.Mathlib.Nat.{not-suc-le-zero, le_of_suc-le-suc}
use lib.ListN.{get_or}
use Rattle.laws.specs.Choose.{pick}
use Rattle.laws.specs.First.{Row, first_of, which_of, tests, gifts}

-- what comes back is what the row says that is the first to apply
pub first_which : {A : Type 0} (rows : List (Row A)) (other : A) → first_of rows other ≡ get_or (gifts rows) (which_of rows) other
unfolding first_of which_of
first_which [] other = refl
first_which (r ∷ rs) other = go r.applies (first_which rs other)
  where
    go : (t : Bool) → first_of rs other ≡ get_or (gifts rs) (which_of rs) other
        → pick t r.gives (first_of rs other) ≡ get_or (r.gives ∷ gifts rs) (pick t 0 (suc (which_of rs))) other
    go true e = refl
    go false e = e

-- row k is the first to apply: its own test holds, and no earlier one does
pub record FirstAt {A : Type 0} (rows : List (Row A)) (k : ℕ) : Type 0 where
  pub holds : get_or (tests rows) k true ≡ true
  pub none_before : (j : ℕ) → j < k → get_or (tests rows) j true ≡ false

later : {A : Type 0} (r : Row A) (rs : List (Row A)) (k : ℕ) → r.applies ≡ false → FirstAt rs k → FirstAt (r ∷ rs) (suc k)
later r rs k e f = record { holds = f.holds; none_before = before }
  where
    before : (j : ℕ) → j < suc k → get_or (tests (r ∷ rs)) j true ≡ false
    before zero h = e
    before (suc j) h = f.none_before j (le_of_suc-le-suc h)

-- the row that comes back is the first to apply (past the end every test counts as holding)
pub which_first : {A : Type 0} (rows : List (Row A)) → FirstAt rows (which_of rows)
unfolding which_of
which_first [] = record { holds = refl; none_before = λ j h. absurd (not-suc-le-zero h) }
which_first (r ∷ rs) = go r.applies refl (which_first rs)
  where
    go : (t : Bool) → r.applies ≡ t → FirstAt rs (which_of rs) → FirstAt (r ∷ rs) (pick t 0 (suc (which_of rs)))
    go true e f = record { holds = e; none_before = λ j h. absurd (not-suc-le-zero h) }
    go false e f = later r rs (which_of rs) e f

-- no two rows are the first to apply
pub first_unique : {A : Type 0} (rows : List (Row A)) (k m : ℕ) → FirstAt rows k → FirstAt rows m → k ≡ m
first_unique rows zero zero f g = refl
first_unique rows zero (suc m) f g = absurd (true≢false (sym f.holds ∙ g.none_before 0 (suc-le-suc zero-le)))
first_unique rows (suc k) zero f g = absurd (true≢false (sym g.holds ∙ f.none_before 0 (suc-le-suc zero-le)))
first_unique [] (suc k) (suc m) f g = absurd (true≢false (f.none_before 0 (suc-le-suc zero-le)))
first_unique (r ∷ rs) (suc k) (suc m) f g =
    ap suc (first_unique rs k m (earlier f) (earlier g))
  where
    earlier : {n : ℕ} → FirstAt (r ∷ rs) (suc n) → FirstAt rs n
    earlier f = record { holds = f.holds; none_before = λ j h. f.none_before (suc j) (suc-le-suc h) }

-- THE LAW: the k-th row comes back exactly if its test holds and no earlier one does
pub first_that_applies : {A : Type 0} (rows : List (Row A)) (k : ℕ) → (which_of rows ≡ k) ↔ FirstAt rows k
first_that_applies rows k =
    ((λ e. rw e at (which_first rows)), (λ f. first_unique rows (which_of rows) k (which_first rows) f))
