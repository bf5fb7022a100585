-- What a list of refusals comes to: the first that applies, as an error, or that none does.
-- Rule 7.20 of docs/RULES.md.
use Rattle.std.specs.Prelude.{Bool, true, false, List, [], ◌∷◌, Result, Ok, Err, ⊤}
use Rattle.laws.specs.Choose.{pick}
use Rattle.laws.specs.First.{Row}
use Rattle.response.specs.declared.Outcome.{Outcome}

-- what the first row that applies gives, or none
unfoldable pub refusal_in : List (Row Outcome) → Result ⊤ Outcome
refusal_in [] = Ok tt
refusal_in (r ∷ rs) = let rest = refusal_in rs in pick r.applies (Err r.gives) rest

-- some row applies
unfoldable pub is_refusal : Result ⊤ Outcome → Bool
is_refusal (Err o) = true
is_refusal (Ok u) = false

-- the outcome: the refusal, and otherwise another one
unfoldable pub or_else : Result ⊤ Outcome → Outcome → Outcome
or_else (Err o) other = o
or_else (Ok u) other = other
