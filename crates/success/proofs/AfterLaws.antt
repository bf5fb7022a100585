-- What a success leaves: the occupied slots are the live ones, bytes outside bodies are zero, and the record stays sound.
use mathlib.Core.Path.{◌≡◌, refl, sym, ◌∙◌, ap}
use mathlib.Core.Bool.{Bool, true, false, false≢true}
use mathlib.Core.List.{List}
use mathlib.Core.Logic.{◌⊎◌, inl, inr, ⊎_elim}
use Prim.Native.Nat.{ℕ, ◌+◌, ◌*◌, ◌<◌, ◌≤◌}
use native.Mathlib.Omega.{arith}
use lib.ListN.{get_or}
use borrow.Author.Tests.{ltb-true, lt-ltb, le-ltb}
use Rattle.laws.specs.Choose.{pick}
use Rattle.laws.proofs.Tests.{and_left, and_right}
use Rattle.tag.specs.Given.{number_of_tag}
use Rattle.tag.proofs.Tag.{tag_below}
use Rattle.tag.proofs.Given.{number_only}
use Rattle.record.specs.Packages.{package_at, is_listed}
use Rattle.record.specs.Places.{is_in_use, places, is_whole, slots_of, occupied, is_live, live}
use Rattle.record.specs.Address.{address_of, has_address}
use Rattle.record.specs.Sound.{latest_clock, is_sound}
use Rattle.success.specs.After.{success_number, given_tag, freed_places, is_match, has_body, written_slot, written, places_after, record_after, with_body, part_after}
use Rattle.record.specs.declared.Slot.{Slot}
use Rattle.record.specs.declared.Record.{Record}
use Rattle.success.specs.declared.Success.{Success}
use Rattle.success.proofs.StoreLaws.{places_in_length, whole_slots}
use Rattle.record.proofs.Places.{place_at, taken_below, slots_taken, Apart, Came, places_back, those_agree, apart_after}
use Rattle.success.proofs.Cleared.{in_body, cleared_at}
use Rattle.success.proofs.Stands.{IsNew, IsOld, and_none, live_stays, freed_at_lem, stands}
use Rattle.record.proofs.SoundLaws.{SlotHolds, RecordHolds, sound_found, sound_tested}

-- the places of the record after a success are the places after it
pub places_after_lem : (x : Success) (r : Record) → places (record_after x r) ≡ places_after x r
unfolding places record_after
places_after_lem x r = places_back (places_after x r)

-- its occupied slots are those of these places
pub occupied_after : (x : Success) (r : Record) → occupied (record_after x r) ≡ slots_taken (places_after x r)
unfolding occupied
occupied_after x r = rw (places_after_lem x r)

-- a slot that is occupied after a success ends later than its clock
pub runs_on : (x : Success) (r : Record) (k : ℕ) → (place_at (places_after x r) k).taken ≡ true → x.clock < (place_at (places_after x r) k).slot.end
unfolding written is_live
runs_on x r k t = ⊎_elim new old (stands x r k t)
  where
    new : IsNew x r k → x.clock < (place_at (places_after x r) k).slot.end
    new n = let l : 0 < x.granted = n.lasts in rw n.holds (omega arith)

    old : IsOld x r k → x.clock < (place_at (places_after x r) k).slot.end
    old o = rw o.stays (ltb-true _ _ (and_right (place_at (places r) k).taken _ o.runs))

-- after a success the occupied slots are exactly the live ones
pub live_after : (x : Success) (r : Record) → live x.clock (record_after x r) ≡ occupied (record_after x r)
unfolding live occupied is_live
live_after x r = rw (places_after_lem x r) (ap slots_of (those_agree (is_live x.clock) (λ p. p.taken) (places_after x r) same))
  where
    same : (k : ℕ) → is_live x.clock (place_at (places_after x r) k) ≡ (place_at (places_after x r) k).taken
    same k = go (place_at (places_after x r) k).taken refl
      where
        go : (b : Bool) → (place_at (places_after x r) k).taken ≡ b → is_live x.clock (place_at (places_after x r) k) ≡ (place_at (places_after x r) k).taken
        go true t = rw (t, lt-ltb _ _ (runs_on x r k t))
        go false t = rw t

-- byte j of the room of place k after a success: what was there, or was given, where it belongs to a body, and 0 elsewhere
pub byte_after : (x : Success) (r : Record) (body bs : List ℕ) (k j : ℕ) → j < 512
    → get_or (part_after x r body bs) (512 * k + j) 0
    ≡ pick (in_body (place_at (places_after x r) k) j) (get_or (with_body x r body bs) (512 * k + j) 0) 0
unfolding part_after
byte_after x r body bs k j h = cleared_at (places_after x r) (with_body x r body bs) k j h

-- every byte outside an occupied slot's body is 0
pub zero_outside : (x : Success) (r : Record) (body bs : List ℕ) (k j : ℕ) → j < 512
    → ((place_at (places_after x r) k).taken ≡ false) ⊎ ((place_at (places_after x r) k).slot.length ≤ j)
    → get_or (part_after x r body bs) (512 * k + j) 0 ≡ 0
zero_outside x r body bs k j h out = byte_after x r body bs k j h ∙ rw (outside out)
  where
    outside : ((place_at (places_after x r) k).taken ≡ false) ⊎ ((place_at (places_after x r) k).slot.length ≤ j)
        → in_body (place_at (places_after x r) k) j ≡ false
    outside (inl e) = rw e
    outside (inr l) = rw (le-ltb j _ l) (and_none (place_at (places_after x r) k).taken)

-- a success leaves these as they are
pub record Keeps (r r' : Record) : Type 0 where
  pub used : r'.used ≡ r.used
  pub address : r'.address ≡ r.address
  pub start : r'.start ≡ r.start
  pub has_address_lem : has_address r' ≡ has_address r

-- the record after a success is in use as before, for the same address, with the same start
pub keeps : (x : Success) (r : Record) → Keeps r (record_after x r)
unfolding record_after has_address address_of
keeps x r = record { used = refl; address = refl; start = refl; has_address_lem = refl }

-- so it is in use exactly if it was
pub in_use_kept : (r r' : Record) → Keeps r r' → is_in_use r' ≡ is_in_use r
unfolding is_in_use
in_use_kept r r' k = rw k.used

-- what a success rests on: no refusal applied
pub record Rests (x : Success) (r : Record) : Type 0 where
  pub whole : is_whole r ≡ true
  pub used : is_in_use r ≡ true
  pub sound : is_sound r ≡ true
  pub listed : is_listed x.event ≡ true
  pub body_fits : x.length ≤ 512
  pub time_fits : x.granted ≤ (package_at x.event).most
  pub not_back : r.clock ≤ x.clock
  pub in_time : x.clock ≤ latest_clock
  pub unspent : r.spent < 4294967295
  pub start_fits : r.start < 4294967296
  pub matched_or_told : (is_live x.clock (place_at (places r) x.slot) ≡ true) ⊎ ((x.slot ≡ 8) × (0 < x.length))

-- what holds of the first of two numbers, and of the second where it is picked, holds of the one picked
pick_holds : (P : ℕ → Type 0) (b : Bool) (m n : ℕ) → P m → (b ≡ false → P n) → P (pick b m n)
pick_holds P true m n h f = h
pick_holds P false m n h f = f refl

-- a live place of a whole record is one of eight
live_below : (clock : ℕ) (r : Record) (k : ℕ) → is_whole r ≡ true → is_live clock (place_at (places r) k) ≡ true → k < 8
unfolding is_live places
live_below clock r k w e =
    omega (arith, taken_below (places r) k (and_left _ _ e), places_in_length r.map r.slots, whole_slots r w)

module _ (x : Success) (r : Record) (h : Rests x r) where
  -- the record before
  before : RecordHolds r (places r)
  before = sound_found r h.used h.sound

  -- without a body, the slot written is a matched one, and it runs
  matched : has_body x ≡ false → is_live x.clock (place_at (places r) (written_slot x r)) ≡ true
  unfolding has_body written_slot is_match
  matched e = go h.matched_or_told
    where
      go : (is_live x.clock (place_at (places r) x.slot) ≡ true) ⊎ ((x.slot ≡ 8) × (0 < x.length))
          → is_live x.clock (place_at (places r) (written_slot x r)) ≡ true
      go (inl l) = rw (lt-ltb x.slot 8 (live_below x.clock r x.slot h.whole l)) l
      go (inr n) = absurd (false≢true (sym e ∙ lt-ltb 0 x.length n.1))

  -- so what is written keeps length and body number of a slot that was occupied there
  kept : (k : ℕ) → IsNew x r k → has_body x ≡ false
      → ((place_at (places r) k).taken ≡ true) × (place_at (freed_places x r) k ≡ place_at (places r) k)
  unfolding is_live
  kept k n e =
      let l : is_live x.clock (place_at (places r) k) ≡ true = rw n.here (matched e) in
      (and_left (place_at (places r) k).taken _ l, freed_at_lem x r k ∙ live_stays x.clock (place_at (places r) k) l)

  -- the new tag has the number of this success
  new_number : number_of_tag r.start (given_tag r) ≡ r.spent + 1
  unfolding given_tag success_number
  new_number =
      let fits : r.spent + 1 < 4294967296 = omega (arith, h.unspent) in
      sym (number_only r.start (given_tag r) (r.spent + 1) h.start_fits (tag_below r.start (r.spent + 1)) fits refl)

  -- what is written is a sound slot, where the one whose length and body number it keeps is
  new_holds : (s : Slot) → (has_body x ≡ false → SlotHolds r s) → SlotHolds (record_after x r) (written x r s)
  unfolding record_after written success_number
  new_holds s f =
      record {
        listed = h.listed;
        short = pick_holds (λ n. n ≤ 512) (has_body x) x.length s.length h.body_fits (λ e. (f e).short);
        ends = omega (arith, h.time_fits);
        number_first = pick_holds (λ n. 1 ≤ n) (has_body x) (r.spent + 1) s.edition (omega arith) (λ e. (f e).number_first);
        number_last = pick_holds (λ n. n ≤ r.spent + 1) (has_body x) (r.spent + 1) s.edition (omega arith) (λ e. omega (arith, (f e).number_last));
        tag_first = omega (arith, new_number);
        tag_last = omega (arith, new_number);
      }

  -- a slot that was sound still is: clock and spent count only grow
  old_holds : (s : Slot) → SlotHolds r s → SlotHolds (record_after x r) s
  unfolding record_after success_number
  old_holds s o =
      record {
        listed = o.listed;
        short = o.short;
        ends = omega (arith, h.not_back);
        number_first = o.number_first;
        number_last = omega arith;
        tag_first = o.tag_first;
        tag_last = omega arith;
      }

  -- a place that still holds what it did was occupied
  was_taken : (k : ℕ) → IsOld x r k → (place_at (places r) k).taken ≡ true
  unfolding is_live
  was_taken k o = and_left (place_at (places r) k).taken _ o.runs

  -- every slot that is occupied after the success is sound
  each_holds : (k : ℕ) → (place_at (places_after x r) k).taken ≡ true → SlotHolds (record_after x r) (place_at (places_after x r) k).slot
  each_holds k t = ⊎_elim new old (stands x r k t)
    where
      new : IsNew x r k → SlotHolds (record_after x r) (place_at (places_after x r) k).slot
      new n =
          rw n.holds
          (new_holds (place_at (freed_places x r) k).slot (λ e. rw (kept k n e).1 (before.each k (kept k n e).0)))

      old : IsOld x r k → SlotHolds (record_after x r) (place_at (places_after x r) k).slot
      old o = rw o.stays (old_holds (place_at (places r) k).slot (before.each k (was_taken k o)))

  -- the new tag is no other slot's
  tags_apart : Apart (λ s. s.tag) (places_after x r)
  unfolding written
  tags_apart = apart_after (λ s. s.tag) (given_tag r) (written_slot x r) (places r) (places_after x r) came never before.tags
    where
      came : (k : ℕ) → (place_at (places_after x r) k).taken ≡ true
          → Came (λ s. s.tag) (given_tag r) (written_slot x r) (places r) (places_after x r) k
      came k t =
          ⊎_elim (λ n. inl (n.here, ap (λ s. s.tag) n.holds)) (λ o. inr (was_taken k o, ap (λ p. p.slot.tag) o.stays))
          (stands x r k t)

      never : (k : ℕ) → (place_at (places r) k).taken ≡ true → (place_at (places r) k).slot.tag ≡ given_tag r → ⊥
      never k t e = omega (arith, new_number, ap (number_of_tag r.start) e, (before.each k t).tag_last)

  -- a new body number is the number of this success, and without a body the old one stays
  number_came : (k : ℕ) → IsNew x r k → Came (λ s. s.edition) (success_number r) (written_slot x r) (places r) (places_after x r) k
  unfolding written
  number_came k n = go (has_body x) refl
    where
      go : (b : Bool) → has_body x ≡ b → Came (λ s. s.edition) (success_number r) (written_slot x r) (places r) (places_after x r) k
      go true e = inl (n.here, ap (λ s. s.edition) n.holds ∙ rw e)
      go false e = inr ((kept k n e).0, ap (λ s. s.edition) n.holds ∙ rw (e, (kept k n e).1))

  -- the new body number is no other slot's
  numbers_apart : Apart (λ s. s.edition) (places_after x r)
  unfolding success_number
  numbers_apart =
      apart_after (λ s. s.edition) (success_number r) (written_slot x r) (places r) (places_after x r) came never before.numbers
    where
      came : (k : ℕ) → (place_at (places_after x r) k).taken ≡ true
          → Came (λ s. s.edition) (success_number r) (written_slot x r) (places r) (places_after x r) k
      came k t = ⊎_elim (number_came k) (λ o. inr (was_taken k o, ap (λ p. p.slot.edition) o.stays)) (stands x r k t)

      never : (k : ℕ) → (place_at (places r) k).taken ≡ true → (place_at (places r) k).slot.edition ≡ success_number r → ⊥
      never k t e = omega (arith, (before.each k t).number_last)

  -- a success leaves the record sound
  pub sound_after : is_sound (record_after x r) ≡ true
  unfolding record_after
  sound_after =
      sound_tested (record_after x r) (places_after x r) (in_use_kept r _ (keeps x r) ∙ h.used) (places_after_lem x r)
      record {
        address = (keeps x r).has_address_lem ∙ before.address;
        in_time = h.in_time;
        each = each_holds;
        tags = tags_apart;
        numbers = numbers_apart;
      }
