-- A success at the record of an address, told by its input and its answer: what it gave is what it wrote, and what it presented is what
-- it matched.
use mathlib.Core.Path.{◌≡◌, refl, sym, ◌∙◌, ap₂}
use mathlib.Core.Bool.{Bool, true, false, ◌&&◌, true≢false, and_comm}
use mathlib.Core.List.{List}
use Prim.Native.Nat.{ℕ}
use native.Mathlib.Omega.{arith}
use lib.Dec.{ltb, eqb}
use lib.ListN.{length}
use borrow.Author.Tests.{lt-ltb}
use Rattle.laws.specs.Choose.{pick}
use Rattle.laws.proofs.Tests.{and_left, and_right, place_holds}
use Rattle.laws.proofs.Rows.{none_applies}
use Rattle.request.specs.Head.{head_of}
use Rattle.request.specs.Fields.{has_match}
use Rattle.tag.specs.Written.{is_tag_text}
use Rattle.record.specs.Places.{Place, free_place, places, is_live, matching}
use Rattle.success.specs.After.{given_tag, is_match, written}
use Rattle.record.specs.declared.Record.{Record}
use Rattle.record.proofs.Places.{place_at}
use Rattle.success.proofs.StoreLaws.{places_in_length, freed_at_length}
use Rattle.response.specs.Outcomes.{is_success}
use Rattle.publish.specs.Refusals.{Case, outcome_of, refusals, presented, granted}
use Rattle.publish.specs.Step.{success_of, success_for}
use Rattle.response.specs.declared.Outcome.TheVariants.{Granted}
use Rattle.table.specs.Handle.{Input}
use Rattle.table.specs.Run.{Exchange}
use Rattle.table.proofs.OneRecord.{none_refusing}
use Rattle.table.proofs.GrantedLaws.{Grants, grants, slot_there}
use Rattle.runs.specs.Alone.{case_at, answered}
use Rattle.runs.specs.Tags.{has_tag, tag_in, package_in, came_back, succeeded, tag_of_outcome, time_of_outcome, tag_given, end_of, gave, presented_tag}
use Rattle.runs.proofs.Kept.{Kept}
use Rattle.runs.proofs.SomePlace.{At, new_place}

-- a publication of that package with that tag, live at that clock
abbrev pub fits : ℕ → ℕ → List ℕ → Place → Bool
fits clock p w o = is_live clock o && (eqb o.slot.event p && is_tag_text w o.slot.tag)

module _ (r : Record) (x : Input) (e : is_success (outcome_of (case_at true r x)) ≡ true) where
  -- what the input is tried against
  abbrev c : Case
  c = case_at true r x

  -- the exchange
  abbrev y : Exchange
  y = answered x c

  -- no refusal applied
  g : Grants c
  g = grants c e

  -- it gives the next tag and the granted time
  pub gives : outcome_of c ≡ Granted (given_tag r) (granted x.request (head_of x.request))
  unfolding outcome_of case_at
  gives = none_applies (refusals c) _ (none_refusing c e)

  -- what it gave, and how long, is what it wrote
  pub gave_new : (clock p : ℕ) (w : List ℕ) → (gave w p y && ltb clock (end_of y)) ≡ fits clock p w (new_place (success_of c) r)
  unfolding gave succeeded came_back tag_given end_of answered package_in tag_of_outcome time_of_outcome is_success case_at success_of success_for written is_live
  gave_new clock p w = rw gives (and_comm (eqb _ p && is_tag_text w _) (ltb clock _))

  -- a tag matched exactly if one was presented
  match_is : is_match (success_of c) ≡ has_tag x
  unfolding is_match success_of success_for has_tag case_at
  match_is = go (has_match (head_of x.request)) refl
    where
      go : (b : Bool) → has_match (head_of x.request) ≡ b → ltb (pick b (presented r x.clock x.request (head_of x.request)) 8) 8 ≡ b
      go true m = lt-ltb _ 8 (g.matched m)
      go false m = refl

  -- what it presented is what it matched
  pub presented_is : (tag : ℕ) → presented_tag tag y ≡ (is_match (success_of c) && is_tag_text (tag_in x) tag)
  unfolding presented_tag succeeded came_back answered
  presented_is tag = ap₂ (λ (b m : Bool). b && (m && is_tag_text (tag_in x) tag)) e (sym match_is)

  -- the slot that it matched has that publication
  found : Kept r → (b : Bool) → has_match (head_of x.request) ≡ b
      → ltb (pick b (presented r x.clock x.request (head_of x.request)) 8) 8 ≡ true
      → fits x.clock (package_in x) (tag_in x) (place_at (places r) (pick b (presented r x.clock x.request (head_of x.request)) 8)) ≡ true
  unfolding presented matching places tag_in package_in case_at
  found kept true m h =
      let size : length (places r) ≡ 8 = places_in_length r.map r.slots ∙ kept.eight in
      place_holds (fits x.clock (package_in x) (tag_in x)) (places r) free_place (omega (arith, g.matched m))
  found kept false m h = absurd (true≢false (sym h))

  -- and the rest that is known of it
  pub at : Kept r → At (success_of c) r (tag_in x)
  unfolding success_of success_for is_match is_live case_at
  at kept =
      record {
        kept = kept;
        there = slot_there c g (freed_at_length x.clock r ∙ kept.eight);
        taken = λ m. and_left _ _ (and_left (is_live x.clock there) _ (fit m));
        named = λ m. and_right (eqb there.slot.event (package_in x)) _ (and_right (is_live x.clock there) _ (fit m));
      }
    where
      there : Place
      there = place_at (places r) (success_of c).slot

      fit : is_match (success_of c) ≡ true → fits x.clock (package_in x) (tag_in x) there ≡ true
      fit m = found kept (has_match (head_of x.request)) refl m
