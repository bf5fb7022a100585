-- The clock of the record of an address alone is that of its latest success, and none was later.
use mathlib.Core.Path.{◌≡◌, refl, sym, ◌∙◌}
use mathlib.Core.Bool.{Bool, true, false, ◌&&◌, and-true, and-false}
use mathlib.Core.List.{List, [], ◌∷◌}
use Prim.Native.Nat.{ℕ, ◌≤◌}
use native.Mathlib.Omega.{arith}
use lib.Dec.{leb}
use borrow.Author.Tests.{leb-true, le-leb}
use Rattle.laws.specs.Lists.{every, those}
use Rattle.success.specs.After.{record_after}
use Rattle.record.specs.declared.Record.{Record}
use Rattle.response.specs.Outcomes.{is_success}
use Rattle.publish.specs.Refusals.{outcome_of}
use Rattle.publish.specs.Step.{success_of, success_for, own_after, part_afterwards}
use Rattle.table.specs.Handle.{Input}
use Rattle.table.specs.Run.{Exchange}
use Rattle.table.proofs.GrantedLaws.{grants}
use Rattle.runs.specs.Alone.{case_at, answered, beginning, alone_from}
use Rattle.runs.specs.Tags.{came_back, succeeded, is_not_back}

-- what is not above a clock below another is not above that
covers : (a b clock : ℕ) (n : Bool) → a ≤ b → (leb b clock && n) ≡ (leb a clock && (leb b clock && n))
covers a b clock n h = go (leb b clock) refl
  where
    go : (c : Bool) → leb b clock ≡ c → (c && n) ≡ (leb a clock && (c && n))
    go true e = rw (le-leb a clock (omega (arith, leb-true b clock e)))
    go false e = sym (and-false (leb a clock))

-- one input more in front
step : (clock : ℕ) (r : Record) (x : Input) (later : List Exchange)
    → (leb (own_after (case_at true r x)).clock clock && is_not_back clock later)
    ≡ (leb r.clock clock && is_not_back clock (answered x (case_at true r x) ∷ later))
unfolding own_after case_at record_after success_of success_for is_not_back those every succeeded came_back answered
step clock r x later = go (is_success (outcome_of (case_at true r x))) refl
  where
    N : Bool
    N = is_not_back clock later

    go : (b : Bool) → is_success (outcome_of (case_at true r x)) ≡ b
        → (leb (own_after (case_at true r x)).clock clock && N) ≡ (leb r.clock clock && is_not_back clock (answered x (case_at true r x) ∷ later))
    go true e = rw e (covers r.clock x.clock clock N (grants (case_at true r x) e).not_back)
    go false e = rw e

-- the record's clock is not above one exactly where it was not before the inputs, and no success was above it
pub latest : (clock : ℕ) (r : Record) (bs : List ℕ) (xs : List Input)
    → leb (alone_from r bs xs).own.clock clock ≡ (leb r.clock clock && is_not_back clock (alone_from r bs xs).exchanges)
unfolding alone_from beginning is_not_back those every
latest clock r bs [] = sym (and-true (leb r.clock clock))
latest clock r bs (x ∷ xs) =
    let c = case_at true r x in
    latest clock (own_after c) (part_afterwards c bs) xs ∙ step clock r x (alone_from (own_after c) (part_afterwards c bs) xs).exchanges
