-- The refusals before what the request says: where they refuse, theirs is the outcome and it is silent; where they pass, the buffer
-- and the request have their bounds, and what the request says decides.
use mathlib.Core.Path.{◌≡◌, refl, sym}
use mathlib.Core.Bool.{Bool, true, false}
use mathlib.Core.List.{List, [], ◌∷◌}
use Prim.Native.Nat.{◌≤◌}
use lib.ListN.{length}
use borrow.Author.Tests.{ltb-false}
use Rattle.laws.specs.Choose.{pick}
use Rattle.laws.specs.Lists.{every}
use Rattle.laws.specs.First.{Row, first_of}
use Rattle.laws.proofs.Tests.{every_head, every_tail}
use Rattle.success.specs.After.{given_tag}
use Rattle.response.specs.Outcomes.{is_silent}
use Rattle.publish.specs.Refusals.{Case, granted, refusals, size_rows, request_rows, outcome_of}
use Rattle.publish.specs.Refusal.{refusal_in, is_refusal}
use Rattle.response.specs.declared.Outcome.{Outcome}
use Rattle.response.specs.declared.Outcome.TheVariants.{Silent, Granted}
use Rattle.std.specs.Prelude.{Ok, Err, ⊤}
use Rattle.publish.proofs.RefusedLaws.{none_refuses, passed_first, first_err, front_err}
use Rattle.table.specs.Looked.{early_rows}

-- a test that passes what each row gives, and the other one, passes what comes back
first_passes : (f : Outcome → Bool) (rows : List (Row Outcome)) (other : Outcome) → every (λ r. f r.gives) rows ≡ true → f other ≡ true
    → f (first_of rows other) ≡ true
unfolding first_of
first_passes f [] other e h = h
first_passes f (r ∷ rs) other e h = go r.applies (first_passes f rs other (every_tail (λ r. f r.gives) r rs e) h)
  where
    go : (b : Bool) → f (first_of rs other) ≡ true → f (pick b r.gives (first_of rs other)) ≡ true
    go true k = every_head (λ r. f r.gives) r rs e
    go false k = k

module _ (c : Case) where
  -- the early rows of a case
  abbrev pub early : List (Row Outcome)
  early = early_rows c.sound c.records c.store (length c.text) c.buffer c.clock

  -- a refusal among them is the outcome
  pub early_err : {o : Outcome} → refusal_in early ≡ Err o → outcome_of c ≡ o
  unfolding outcome_of refusals early_rows size_rows
  early_err e = first_err _ _ _ (front_err early _ e)

  -- and it is silent
  pub early_silent : {o : Outcome} → refusal_in early ≡ Err o → is_silent o ≡ true
  unfolding every is_silent early_rows size_rows
  early_silent {o} e =
      rw (first_err early (Silent 0) o e) at (first_passes is_silent early (Silent 0) refl refl)

  -- where they pass, the outcome is what the request's own rows give
  pub early_ok : {u : ⊤} → refusal_in early ≡ Ok u
      → outcome_of c ≡ first_of (request_rows c.known c.own c.clock c.text c.head) (Granted (given_tag c.own) (granted c.text c.head))
  unfolding outcome_of refusals early_rows size_rows is_refusal
  early_ok e = sym (passed_first early (sym e) {answer = false} refl _ refl _)

  -- and the buffer takes any message, and the request is not too long
  pub early_passes : {u : ⊤} → refusal_in early ≡ Ok u → (4608 ≤ c.buffer) × (length c.text ≤ 4096)
  unfolding early_rows size_rows is_refusal
  early_passes e =
      let t = none_refuses early (sym e) {answer = false} refl refl in (ltb-false c.buffer 4608 (t 0), ltb-false 4096 (length c.text) (t 2))
