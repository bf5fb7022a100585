-- What a success tells: none of the refusals applied, so each test of the list is known to fail, and the slot that is written is there.
use mathlib.Core.Path.{◌≡◌, refl, sym, ◌∙◌, ap}
use mathlib.Core.Bool.{Bool, true, false, not, ◌&&◌, ◌||◌}
use mathlib.Core.List.{List, [], ◌∷◌}
use Prim.Native.Nat.{ℕ, suc, ◌<◌, ◌≤◌}
use native.Mathlib.Omega.{arith}
use lib.Dec.{ltb, eqb}
use lib.ListN.{length, get_or}
use borrow.Author.Tests.{ltb-true, ltb-false, lt-ltb, eqb-false, not-true, not-false}
use Rattle.laws.specs.Choose.{pick}
use Rattle.laws.specs.Bytes.{bytes}
use Rattle.laws.specs.Lists.{place_of, those, every, same}
use Rattle.laws.specs.First.{tests}
use Rattle.laws.proofs.Tests.{and_left, and_fails, or_left, or_right, every_head, every_tail, place_none, place_holds}
use Rattle.request.specs.Names.{Event}
use Rattle.request.specs.Head.{is_readable, method_of, absent}
use Rattle.request.specs.declared.Head.{Head}
use Rattle.request.specs.Fields.{body_length, has_match}
use Rattle.record.specs.Packages.{is_listed}
use Rattle.record.specs.Places.{free_place, places, is_live, live, lowest_free, matching}
use Rattle.record.specs.Sound.{latest_clock}
use Rattle.success.specs.After.{freed_at, freed_places, is_match, written_slot}
use Rattle.record.specs.declared.Record.{Record}
use Rattle.record.proofs.Places.{place_at}
use Rattle.success.proofs.StoreLaws.{places_in_length}
use Rattle.success.proofs.FreedLaws.{count_live}
use Rattle.response.specs.Outcomes.{is_success}
use Rattle.publish.specs.Refusals.{Case, is_bad_size, event_of, granted, presented, is_bad_event, is_unmatched, is_nothing, is_full, refusals, size_rows, request_rows, reading_rows, address_rows, content_rows, room_rows, outcome_of}
use Rattle.publish.specs.Step.{success_for, success_of}
use Rattle.table.proofs.OneRecord.{none_refusing}

-- what holds of a request that succeeds
pub record Grants (c : Case) : Type 0 where
  pub buffer_fits : 4608 ≤ c.buffer
  pub good_sizes : is_bad_size c.records c.store ≡ false
  pub text_fits : length c.text ≤ 4096
  pub in_time : c.clock ≤ latest_clock
  pub sound : c.sound ≡ true
  pub readable : is_readable c.text c.head ≡ true
  pub known : c.known ≡ true
  pub listed : is_listed (event_of c.text c.head) ≡ true
  pub not_back : c.own.clock ≤ c.clock
  pub matched : has_match c.head ≡ true → presented c.own c.clock c.text c.head < 8
  pub body_fits : body_length c.text c.head ≤ 512
  pub told : has_match c.head ≡ false → 0 < body_length c.text c.head
  pub unspent : c.own.spent ≡ 4294967295 → ⊥
  pub not_full : has_match c.head ≡ false → 0 < granted c.text c.head → length (live c.clock c.own) ≡ 8 → ⊥

-- no refusal applied
module _ (c : Case) (e : is_success (outcome_of c) ≡ true) where
  abbrev s : List ℕ
  s = c.text

  abbrev h : Head
  h = c.head

  t : (k : ℕ) → get_or (tests (refusals c)) k false ≡ false
  t = none_refusing c e

  readable_not_ack : (not (is_readable s h) || same (method_of s h) (bytes "ACK")) ≡ false
  unfolding refusals size_rows request_rows reading_rows
  readable_not_ack = t 5

  event_good : (absent Event h || not (is_listed (event_of s h))) ≡ false
  unfolding refusals size_rows request_rows reading_rows address_rows is_bad_event
  event_good = t 9

  not_unmatched : (has_match h && not (ltb (presented c.own c.clock s h) 8)) ≡ false
  unfolding refusals size_rows request_rows reading_rows address_rows is_unmatched
  not_unmatched = t 12

  not_nothing : (eqb (body_length s h) 0 && not (has_match h)) ≡ false
  unfolding refusals size_rows request_rows reading_rows address_rows content_rows is_nothing
  not_nothing = t 16

  has_room_holds : (not (has_match h) && (ltb 0 (granted s h) && eqb (length (live c.clock c.own)) 8)) ≡ false
  unfolding refusals size_rows request_rows reading_rows address_rows content_rows room_rows is_full
  has_room_holds = t 18

  -- a number that is not 0 is above 0
  above : (n : ℕ) → eqb n 0 ≡ false → 0 < n
  above n f = let other : (n ≡ 0 → ⊥) = eqb-false n 0 f in omega arith

  -- the second of two tests decides where the first holds
  first_fails : (a b : Bool) → (a && not b) ≡ false → b ≡ false → a ≡ false
  first_fails true b g f = sym (ap not f) ∙ g
  first_fails false b g f = refl

  pub grants : Grants c
  unfolding refusals size_rows request_rows reading_rows address_rows content_rows room_rows
  grants =
      record {
        buffer_fits = ltb-false c.buffer 4608 (t 0);
        good_sizes = t 1;
        text_fits = ltb-false 4096 (length s) (t 2);
        in_time = ltb-false latest_clock c.clock (t 3);
        sound = not-false c.sound (t 4);
        readable = not-false (is_readable s h) (or_left (not (is_readable s h)) (same (method_of s h) (bytes "ACK")) readable_not_ack);
        known = not-false c.known (t 8);
        listed = not-false (is_listed (event_of s h)) (or_right (absent Event h) (not (is_listed (event_of s h))) event_good);
        not_back = ltb-false c.clock c.own.clock (t 10);
        matched = λ m. ltb-true (presented c.own c.clock s h) 8
            (not-false (ltb (presented c.own c.clock s h) 8)
            (and_fails (has_match h) (not (ltb (presented c.own c.clock s h) 8)) not_unmatched m));
        body_fits = ltb-false 512 (body_length s h) (t 14);
        told = λ m. above (body_length s h) (first_fails (eqb (body_length s h) 0) (has_match h) not_nothing m);
        unspent = eqb-false c.own.spent 4294967295 (t 17);
        not_full = λ m g. eqb-false (length (live c.clock c.own)) 8
            (and_fails (ltb 0 (granted s h)) (eqb (length (live c.clock c.own)) 8)
            (and_fails (not (has_match h)) (ltb 0 (granted s h) && eqb (length (live c.clock c.own)) 8) has_room_holds (ap not m))
            (lt-ltb 0 (granted s h) g));
      }

-- where every element passes, those that pass are all
all_those : {A : Type 0} (f : A → Bool) (xs : List A) → every (λ x. not (not (f x))) xs ≡ true → length (those f xs) ≡ length xs
unfolding those
all_those f [] e = refl
all_those f (x ∷ xs) e = rw (not-false (f x) (not-true (not (f x)) (every_head (λ x. not (not (f x))) x xs e)))
    (ap suc (all_those f xs (every_tail (λ x. not (not (f x))) x xs e)))

-- where not eight are live, a place is free once those are freed whose end has come
pub free_place_lem : (clock : ℕ) (r : Record) → length (freed_at clock r) ≡ 8 → (length (live clock r) ≡ 8 → ⊥) → lowest_free (freed_at clock r) < 8
unfolding lowest_free
free_place_lem clock r eight not_full = go (ltb k 8) refl
  where
    k : ℕ
    k = place_of (λ p. not p.taken) (freed_at clock r)

    go : (b : Bool) → ltb k 8 ≡ b → k < 8
    go true e = ltb-true k 8 e
    go false e =
        let past : length (freed_at clock r) ≤ k = omega (arith, ltb-false k 8 e) in
        absurd (not_full (sym (count_live clock r) ∙ (all_those (λ p. p.taken) (freed_at clock r) (place_none _ _ past) ∙ eight)))

module _ (c : Case) (g : Grants c) where
  -- the slot that it presents, or 8
  pub slot_most : (success_of c).slot ≤ 8
  unfolding success_of success_for
  slot_most = go (has_match c.head) refl
    where
      go : (b : Bool) → has_match c.head ≡ b → pick b (presented c.own c.clock c.text c.head) 8 ≤ 8
      go true m = let p : presented c.own c.clock c.text c.head < 8 = g.matched m in omega arith
      go false m = omega arith

  -- the slot that it presents is live
  pub match_live : length c.own.slots ≡ 8 → has_match c.head ≡ true
      → is_live c.clock (place_at (places c.own) (presented c.own c.clock c.text c.head)) ≡ true
  unfolding presented matching places
  match_live eight m =
      let k = presented c.own c.clock c.text c.head in
      let size : length (places c.own) ≡ length c.own.slots = places_in_length c.own.map c.own.slots in
      let there : k < length (places c.own) = omega (arith, g.matched m) in
      and_left (is_live c.clock (place_at (places c.own) k)) _ (place_holds _ (places c.own) free_place there)

  -- a slot is matched where a tag is presented
  pub match_is : is_match (success_of c) ≡ has_match c.head
  unfolding success_of success_for is_match
  match_is = go (has_match c.head) refl
    where
      go : (b : Bool) → has_match c.head ≡ b → ltb (pick b (presented c.own c.clock c.text c.head) 8) 8 ≡ b
      go true m = lt-ltb _ _ (g.matched m)
      go false m = refl

  -- the slot that is written is the one presented, and the lowest free one where none is
  pub slot_is : written_slot (success_of c) c.own
      ≡ pick (has_match c.head) (presented c.own c.clock c.text c.head) (lowest_free (freed_at c.clock c.own))
  unfolding success_of success_for written_slot freed_places
  slot_is = rw match_is (go (has_match c.head) _ _)
    where
      go : (b : Bool) (k n : ℕ) → pick b (pick b k 8) n ≡ pick b k n
      go true k n = refl
      go false k n = refl

  -- it is there
  pub slot_there : length (freed_at c.clock c.own) ≡ 8 → 0 < (success_of c).granted → written_slot (success_of c) c.own < 8
  unfolding success_of success_for
  slot_there eight lasts = rw slot_is (go (has_match c.head) refl)
    where
      k : ℕ
      k = presented c.own c.clock c.text c.head

      go : (b : Bool) → has_match c.head ≡ b → pick b k (lowest_free (freed_at c.clock c.own)) < 8
      go true m = g.matched m
      go false m = free_place_lem c.clock c.own eight (g.not_full m lasts)
