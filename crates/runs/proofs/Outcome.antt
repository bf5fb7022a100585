-- What an input comes to at a record: decided by the refusals before 404, or else by those from 404 on.
use mathlib.Core.Path.{◌≡◌, refl, sym, ◌∙◌, ap}
use mathlib.Core.Bool.{Bool, true, false, not, ◌||◌, true≢false}
use mathlib.Core.List.{List, [], ◌∷◌, ◌++◌}
use borrow.Author.Tests.{not-true, not-false}
use Rattle.laws.specs.Choose.{pick}
use Rattle.laws.specs.First.{Row, first_of}
use Rattle.laws.specs.Lists.{any, every}
use Rattle.laws.proofs.Rows.{none_applied, none_applies}
use Rattle.request.specs.Head.{head_of}
use Rattle.success.specs.After.{given_tag}
use Rattle.record.specs.declared.Record.{Record}
use Rattle.publish.specs.Refusals.{is_bad_size, refusals, size_rows, request_rows, address_rows, content_rows, room_rows, outcome_of, granted}
use Rattle.publish.specs.Step.{answer_of}
use Rattle.response.specs.declared.Outcome.{Outcome}
use Rattle.response.specs.declared.Outcome.TheVariants.{Granted}
use Rattle.table.specs.Handle.{Input}
use Rattle.runs.specs.Reach.{rows_before, is_read}
use Rattle.runs.specs.Alone.{case_at, answered}

module _ {A : Type 0} where
  -- of rows in front of others: they decide where one of them applies, and otherwise the others do
  rows_both : (rows more : List (Row A)) (pass other : A)
      → first_of (rows ++ more) other ≡ pick (any (λ w. w.applies) rows) (first_of rows pass) (first_of more other)
  unfolding first_of any
  rows_both [] more pass other = refl
  rows_both (r ∷ rows) more pass other = go r.applies (rows_both rows more pass other)
    where
      go : (b : Bool) → first_of (rows ++ more) other ≡ pick (any (λ w. w.applies) rows) (first_of rows pass) (first_of more other)
          → pick b r.gives (first_of (rows ++ more) other)
          ≡ pick (b || any (λ w. w.applies) rows) (pick b r.gives (first_of rows pass)) (first_of more other)
      go true deep = refl
      go false deep = deep

  -- what fails at everything that a row gives, and at what no row gives, fails at what comes back
  pub first_fails : (f : A → Bool) (rows : List (Row A)) (other : A) → every (λ w. not (f w.gives)) rows ≡ true → f other ≡ false
      → f (first_of rows other) ≡ false
  first_fails f rows other e h = go (f (first_of rows other)) refl
    where
      go : (b : Bool) → f (first_of rows other) ≡ b → b ≡ false
      go true k = absurd (true≢false (sym k ∙ ap f (none_applies rows other (none_applied f rows other e k)) ∙ h))
      go false k = refl

-- the rows from 404 on
unfoldable pub rows_from : Bool → Record → Input → List (Row Outcome)
rows_from known r x =
    let s = x.request in
    let h = head_of s in
    address_rows known r x.clock s h ++ (content_rows s h ++ room_rows r x.clock s h)

-- what they come to
unfoldable pub outcome_from : Bool → Record → Input → Outcome
outcome_from known r x = first_of (rows_from known r x) (Granted (given_tag r) (granted x.request (head_of x.request)))

-- the rows before 404 decide where one of them applies, and otherwise those from 404 on do
outcome_both : (known : Bool) (r : Record) (x : Input)
    → outcome_of (case_at known r x)
    ≡ pick (any (λ w. w.applies) (rows_before x)) (first_of (rows_before x) (Granted 0 0)) (outcome_from known r x)
unfolding outcome_of case_at refusals size_rows request_rows is_bad_size rows_before rows_from outcome_from first_of
outcome_both known r x = rows_both (rows_before x) (rows_from known r x) (Granted 0 0) (Granted (given_tag r) (granted x.request (head_of x.request)))

-- an input that is read as far as its address comes to what the rows from 404 on decide
pub outcome_read : (known : Bool) (r : Record) (x : Input) → is_read x ≡ true → outcome_of (case_at known r x) ≡ outcome_from known r x
unfolding is_read
outcome_read known r x e = outcome_both known r x ∙ rw (not-true (any (λ w. w.applies) (rows_before x)) e)

-- any other comes to what the rows before 404 decide, wherever it is sent
pub outcome_unread : (known : Bool) (r : Record) (x : Input) → is_read x ≡ false → outcome_of (case_at known r x) ≡ first_of (rows_before x) (Granted 0 0)
unfolding is_read
outcome_unread known r x e = outcome_both known r x ∙ rw (not-false (any (λ w. w.applies) (rows_before x)) e)

-- the answer follows from what the input comes to
pub answered_alike : (known known' : Bool) (r r' : Record) (x : Input) → outcome_of (case_at known r x) ≡ outcome_of (case_at known' r' x)
    → answered x (case_at known r x) ≡ answered x (case_at known' r' x)
unfolding answered answer_of case_at
answered_alike known known' r r' x e = rw e
