-- The history of an address alone tells which publications its record has live: those that a success gave, that last, and that no later
-- success presented.
use mathlib.Core.Path.{◌≡◌, refl, sym, ◌∙◌, ap, ap₂}
use mathlib.Core.Bool.{Bool, true, false, not, ◌&&◌, ◌||◌}
use mathlib.Core.List.{List, [], ◌∷◌}
use Prim.Native.Nat.{ℕ, ◌+◌, ◌≤◌}
use native.Mathlib.Omega.{arith}
use lib.Dec.{ltb, leb}
use borrow.Author.Tests.{leb-true, le-ltb}
use Rattle.laws.specs.Choose.{pick}
use Rattle.laws.specs.Lists.{any, every, those}
use Rattle.laws.proofs.Tests.{and_left, and_right}
use Rattle.record.specs.Places.{Place, free_place, places, is_live}
use Rattle.success.specs.After.{freed, written, record_after}
use Rattle.record.specs.declared.Record.{Record}
use Rattle.success.specs.declared.Success.{Success}
use Rattle.record.proofs.Places.{place_at}
use Rattle.success.proofs.AfterLaws.{places_after_lem}
use Rattle.response.specs.Outcomes.{is_success}
use Rattle.publish.specs.Refusals.{outcome_of}
use Rattle.publish.specs.Step.{success_of, success_for, own_after}
use Rattle.table.specs.Handle.{Input}
use Rattle.table.specs.Run.{Exchange}
use Rattle.runs.specs.Alone.{case_at, answered, beginning, alone_from}
use Rattle.runs.specs.Tags.{came_back, succeeded, tag_of_outcome, tag_given, end_of, gave, presented_tag, some_left, stands, is_not_back, tag_in}
use Rattle.laws.proofs.Bools.{and_neither, or_turned, or_together}
use Rattle.runs.proofs.Kept.{Kept, kept_on}
use Rattle.runs.proofs.SomePlace.{is_presented, new_place, any_agree, any_after}
use Rattle.runs.proofs.Succeeds.{fits, gives, gave_new, presented_is, at}

-- a publication that fits, and that no success of some presented
abbrev left : ℕ → ℕ → List ℕ → List Exchange → Place → Bool
left clock p w before o = fits clock p w o && not (any (presented_tag o.slot.tag) before)

-- what some exchanges tell, beside what the record before them had
unfoldable pub tells : ℕ → ℕ → List ℕ → List Exchange → Record → Bool
tells clock p w before r = stands w p clock before || any (left clock p w before) (places r)

module _ (clock p : ℕ) (w : List ℕ) (before : List Exchange) where
  -- a publication fits, and was not presented
  abbrev f : Place → Bool
  f = left clock p w before

  -- a free place does not
  untaken : (o : Place) → o.taken ≡ false → f o ≡ false
  unfolding is_live
  untaken o e = rw e

  -- freeing those whose end has come changes nothing at a later clock
  on : (now : ℕ) → now ≤ clock → (o : Place) → f (freed now o) ≡ f o
  unfolding freed is_live
  on now h o = go (o.taken && leb o.slot.end now) refl
    where
      go : (b : Bool) → (o.taken && leb o.slot.end now) ≡ b → f (pick b free_place o) ≡ f o
      go true e =
          let past : o.slot.end ≤ now = leb-true _ _ (and_right o.taken _ e) in
          rw (and_left o.taken _ e, le-ltb clock o.slot.end (omega arith))
      go false e = refl

  module _ (r : Record) (x : Input) (e : is_success (outcome_of (case_at true r x)) ≡ true) where
    -- the success, and the exchange that it makes
    abbrev s : Success
    s = success_of (case_at true r x)

    abbrev y : Exchange
    y = answered x (case_at true r x)

    -- the publication that a success writes is the one that it gave
    first : f (new_place s r) ≡ ((gave w p y && ltb clock (end_of y)) && not (any (presented_tag (tag_given y)) before))
    unfolding written tag_given came_back answered tag_of_outcome
    first =
        ap₂ (λ (b : Bool) (n : ℕ). b && not (any (presented_tag n) before)) (sym (gave_new r x e clock p w)) (sym (ap tag_of_outcome (gives r x e)))

    -- the others are those that it did not present
    others : any (λ o. f o && not (is_presented s (tag_in x) o)) (places r) ≡ any (left clock p w (y ∷ before)) (places r)
    unfolding any
    others = any_agree _ _ (places r) (places r) refl (λ k. one (place_at (places r) k))
      where
        one : (o : Place) → (f o && not (is_presented s (tag_in x) o)) ≡ left clock p w (y ∷ before) o
        one o = rw (presented_is r x e o.slot.tag) (and_neither (fits clock p w o) (any (presented_tag o.slot.tag) before) (is_presented s (tag_in x) o))

    -- so with the exchange in front they tell what the record has after it
    success_tells : Kept r → x.clock ≤ clock → tells clock p w before (own_after (case_at true r x)) ≡ tells clock p w (y ∷ before) r
    unfolding tells stands some_left own_after case_at written is_live success_of success_for
    success_tells kept h =
        rw e (ap (λ (b : Bool). stands w p clock before || b) after ∙ or_turned (stands w p clock before) (f (new_place s r)) _
        ∙ or_together (f (new_place s r)) (stands w p clock before) _
        ∙ ap₂ (λ (n t : Bool). (n || stands w p clock before) || t) first others)
      where
        ended : s.granted ≡ 0 → f (new_place s r) ≡ false
        ended z = rw (le-ltb clock (x.clock + s.granted) (omega arith))

        after : any f (places (record_after s r)) ≡ (f (new_place s r) || any (λ o. f o && not (is_presented s (tag_in x) o)) (places r))
        after = ap (any f) (places_after_lem s r) ∙ any_after s r (tag_in x) (at r x e kept) f untaken (on x.clock h) ended

-- of a history whose successes are not above a clock: the first exchange
not_back_first : (clock : ℕ) (y : Exchange) (ys : List Exchange) → is_not_back clock (y ∷ ys) ≡ true → succeeded y ≡ true → y.input.clock ≤ clock
unfolding is_not_back those every
not_back_first clock y ys e s = leb-true _ _ (and_left _ _ (rw s at e))

-- and the others
not_back_rest : (clock : ℕ) (y : Exchange) (ys : List Exchange) → is_not_back clock (y ∷ ys) ≡ true → is_not_back clock ys ≡ true
unfolding is_not_back those every
not_back_rest clock y ys e = go (succeeded y) e
  where
    go : (b : Bool) → every (λ x. leb x.input.clock clock) (pick b (y ∷ those succeeded ys) (those succeeded ys)) ≡ true
        → every (λ x. leb x.input.clock clock) (those succeeded ys) ≡ true
    go true e = and_right (leb y.input.clock clock) _ e
    go false e = e

-- one input more in front
step_tells : (clock p : ℕ) (w : List ℕ) (r : Record) (x : Input) (before : List Exchange) → Kept r
    → (succeeded (answered x (case_at true r x)) ≡ true → x.clock ≤ clock)
    → tells clock p w before (own_after (case_at true r x)) ≡ tells clock p w (answered x (case_at true r x) ∷ before) r
unfolding tells stands some_left own_after case_at gave presented_tag succeeded came_back answered any
step_tells clock p w r x before kept h = go (is_success (outcome_of (case_at true r x))) refl
  where
    go : (b : Bool) → is_success (outcome_of (case_at true r x)) ≡ b
        → tells clock p w before (own_after (case_at true r x)) ≡ tells clock p w (answered x (case_at true r x) ∷ before) r
    go true e = success_tells clock p w before r x e kept (h e)
    go false e = rw e (ap (λ (b : Bool). stands w p clock before || b) (any_agree _ _ (places r) (places r) refl (λ k. rw e)))

-- after any inputs the record has live what their exchanges tell beside what it had before them
pub told : (clock p : ℕ) (w : List ℕ) (r : Record) (bs : List ℕ) (xs : List Input) → Kept r → is_not_back clock (alone_from r bs xs).exchanges ≡ true
    → tells clock p w [] (alone_from r bs xs).own ≡ tells clock p w (alone_from r bs xs).exchanges r
unfolding alone_from beginning case_at answered
told clock p w r bs [] kept e = refl
told clock p w r bs (x ∷ xs) kept e =
    told clock p w (own_after (case_at true r x)) _ xs (kept_on (case_at true r x) kept) (not_back_rest clock (answered x (case_at true r x)) _ e)
    ∙ step_tells clock p w r x _ kept (not_back_first clock (answered x (case_at true r x)) _ e)
