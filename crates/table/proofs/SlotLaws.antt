-- The slot of a success and every other place of its record, as they stand after it.
use mathlib.Core.Path.{◌≡◌, refl, ◌∙◌}
use mathlib.Core.Bool.{Bool, true, false}
use mathlib.Core.List.{List}
use mathlib.Core.Logic.{inl, inr}
use Prim.Native.Nat.{ℕ, ◌+◌, ◌<◌}
use native.Mathlib.Omega.{arith}
use lib.ListN.{length}
use borrow.Author.Tests.{lt-ltb, le-ltb}
use Rattle.laws.specs.Lists.{every}
use Rattle.request.specs.Head.{head_of, uri_of}
use Rattle.request.specs.Fields.{has_match}
use Rattle.record.specs.Places.{free_place, is_whole, places}
use Rattle.success.specs.After.{success_number, given_tag, freed, freed_places, is_match, has_body, written_slot, written, places_after}
use Rattle.record.specs.declared.Record.{Record}
use Rattle.success.specs.declared.Success.{Success}
use Rattle.record.proofs.Places.{place_at}
use Rattle.success.proofs.StoreLaws.{freed_at_length, freed_places_length, whole_slots}
use Rattle.success.proofs.Stands.{live_stays, written_place, ended_place, other_place}
use Rattle.response.specs.Outcomes.{is_success}
use Rattle.publish.specs.Refusals.{outcome_of}
use Rattle.publish.specs.Step.{success_for, success_of}
use Rattle.table.specs.Table.{Table, place_for, record_at}
use Rattle.table.specs.Handle.{Input, case_of}
use Rattle.table.proofs.AfterSuccess.{head, time, size, slot, Other, holding}
use Rattle.table.proofs.GrantedLaws.{Grants, grants, match_live, match_is, slot_is, slot_there}
use Rattle.table.proofs.Whole.{own_passes}

module _ (t : Table) (buffer : List ℕ) (x : Input) (w : every is_whole t.records ≡ true)
    (e : is_success (outcome_of (case_of t buffer x)) ≡ true) where
  -- the place of the request's address
  abbrev i : ℕ
  i = place_for (uri_of x.request (head_of x.request)) t

  -- the record there
  abbrev r : Record
  r = record_at t i

  -- the success that the request is
  abbrev y : Success
  y = success_for r x.clock x.request (head x)

  -- its slot
  abbrev k : ℕ
  k = slot x i r

  -- no refusal applied
  g : Grants (case_of t buffer x)
  g = grants (case_of t buffer x) e

  -- the record has eight slots
  pub eight_slots : length r.slots ≡ 8
  unfolding case_of
  eight_slots = whole_slots r (own_passes t buffer x is_whole w e)

  -- and eight places once those are freed whose end has come
  eight_places : length (freed_places y r) ≡ 8
  eight_places = freed_places_length y r ∙ eight_slots

  -- the slot is the one that is written
  pub written_is : written_slot y r ≡ k
  unfolding case_of success_of
  written_is = slot_is (case_of t buffer x) g

  -- it is a matched one where SIP-If-Match is given
  matched_is : is_match y ≡ has_match (head x)
  unfolding case_of success_of
  matched_is = match_is (case_of t buffer x) g

  -- it is there
  pub slot_fits : 0 < time x → k < 8
  unfolding case_of success_of success_for
  slot_fits l = rw written_is at (slot_there (case_of t buffer x) g (freed_at_length x.clock r ∙ eight_slots) l)

  -- what stands at a place that is not written
  pub other : (n : ℕ) → Other x i r n → place_at (places_after y r) n ≡ freed x.clock (place_at (places r) n)
  unfolding success_for
  other n (inl a) = other_place y r n (inl (λ q. a (q ∙ written_is)))
  other n (inr a) = other_place y r n (inr (a.0, matched_is ∙ a.1))

  -- what stands at the slot that is written
  new : 0 < time x → place_at (places_after y r) k ≡ record { taken = true; slot = written y r (freed x.clock (place_at (places r) k)).slot }
  unfolding success_for
  new l = rw written_is at (written_place y r l (omega (arith, written_is, slot_fits l, eight_places)))

  -- there, with a body
  pub new_body : 0 < time x → 0 < size x → place_at (places_after y r) k ≡ holding x i r (size x) (r.spent + 1)
  unfolding written has_body given_tag success_number success_for
  new_body l b = new l ∙ rw (lt-ltb 0 (size x) b)

  -- without one a live slot was matched, and it is not freed
  not_freed : size x ≡ 0 → freed x.clock (place_at (places r) k) ≡ place_at (places r) k
  unfolding case_of
  not_freed z = go (has_match (head x)) refl
    where
      go : (b : Bool) → has_match (head x) ≡ b → freed x.clock (place_at (places r) k) ≡ place_at (places r) k
      go true m = rw m (live_stays x.clock _ (match_live (case_of t buffer x) g eight_slots m))
      go false m = absurd (omega (arith, g.told m))

  -- so body length and body number stay
  pub old_body : 0 < time x → size x ≡ 0
      → place_at (places_after y r) k ≡ holding x i r (place_at (places r) k).slot.length (place_at (places r) k).slot.edition
  unfolding written has_body given_tag success_number success_for
  old_body l z = new l ∙ rw (le-ltb 0 (size x) (omega arith), not_freed z)

  -- granted 0: a matched slot is freed
  pub ended : time x ≡ 0 → has_match (head x) ≡ true → place_at (places_after y r) k ≡ free_place
  unfolding success_for case_of
  ended z m = rw written_is at (ended_place y r z (matched_is ∙ m) (rw (eight_places, m) (g.matched m)))
