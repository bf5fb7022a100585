-- The first of a list of tests that applies.
-- Rule 7.20 of docs/RULES.md.
use Rattle.std.specs.Prelude.{Bool, List, [], ◌∷◌, ℕ, suc}
use Rattle.laws.specs.Choose.{pick}

-- a test, and what is given where it is the first that holds
pub record Row (A : Type 0) : Type 0 where
  pub applies : Bool
  pub gives : A

-- a row of a list, written in one line
abbrev pub row : {A : Type 0} → Bool → A → Row A
row t a = record { applies = t; gives = a }

-- what the first row that applies gives, and otherwise the last argument
unfoldable pub first_of : {A : Type 0} → List (Row A) → A → A
first_of [] other = other
first_of (r ∷ rs) other = pick r.applies r.gives (first_of rs other)

-- which row that is, counted from 0; the length where none applies
unfoldable pub which_of : {A : Type 0} → List (Row A) → ℕ
which_of [] = 0
which_of (r ∷ rs) = pick r.applies 0 (suc (which_of rs))

-- the tests of the rows, in their order
abbrev pub tests : {A : Type 0} → List (Row A) → List Bool
tests [] = []
tests (r ∷ rs) = r.applies ∷ tests rs

-- what the rows give, in their order
abbrev pub gifts : {A : Type 0} → List (Row A) → List A
gifts [] = []
gifts (r ∷ rs) = r.gives ∷ gifts rs
