-- Opening gives sound records, and adding and handling keep records sound.
use mathlib.Core.Path.{◌≡◌, refl, sym, ◌∙◌, ap, ap₂}
use mathlib.Core.Bool.{Bool, true, false, not}
use mathlib.Core.List.{List, [], ◌∷◌, map}
use mathlib.Core.Logic.{◌⊎◌, inl, inr}
use Prim.Native.Nat.{ℕ, zero, suc, ◌<◌, ◌≤◌}
use native.Mathlib.Decide.{ℕ_discrete}
use native.Mathlib.Omega.{arith}
use lib.Dec.{ltb}
use lib.ListN.{length, get_or, set, replicate}
use borrow.Author.Tests.{ltb-true, ltb-false, not-true, not-false}
use Rattle.laws.specs.Choose.{pick}
use Rattle.laws.specs.Lists.{every, pairwise, those}
use Rattle.laws.proofs.Tests.{and_left, and_right, and_both, and_fails, same_turned, every_set, every_copy, every_those, every_follows, pairwise_those_set, those_copy, place_none, place_holds}
use Rattle.laws.proofs.Rows.{none_refused}
use Rattle.request.specs.Head.{head_of, uri_of}
use Rattle.request.specs.Fields.{has_match, body_length}
use Rattle.record.specs.Places.{empty_record, is_in_use, occupied, places, places_in, slots_of, is_live, smaller}
use Rattle.record.specs.Address.{is_address, address_of, same_address, is_for}
use Rattle.record.specs.Sound.{slots_differ, is_sound, addresses_differ, all_sound}
use Rattle.success.specs.After.{record_after}
use Rattle.record.specs.declared.Record.{Record}
use Rattle.record.proofs.AddressLaws.{address_of_lem, has_address_lem}
use Rattle.record.proofs.Places.{place_at}
use Rattle.success.proofs.StoreLaws.{whole_slots}
use Rattle.success.proofs.AfterLaws.{Rests, Keeps, keeps, in_use_kept, sound_after}
use Rattle.response.specs.Outcomes.{is_success}
use Rattle.publish.specs.Refusals.{Case, granted, presented, outcome_of}
use Rattle.publish.specs.Step.{success_for, success_of}
use Rattle.table.specs.Table.{Table, bad_size, place_for, is_known, record_at, with_record}
use Rattle.table.specs.HeldRecord.{is_held}
use Rattle.table.specs.Open.{opened, open_refusals, emptied}
use Rattle.table.specs.Add.{Entry, added, add_refusals, lowest_unused, fresh_record}
use Rattle.table.specs.Handle.{Input, done, done_with, case_of}
use Rattle.table.proofs.Untouched.{leaves, add_leaves}
use Rattle.table.proofs.OneRecord.{none_refusing_add, add_writes}
use Rattle.table.proofs.GrantedLaws.{Grants, grants, match_live}
use Rattle.table.proofs.Whole.{Holds, held_found, own_passes, records_after}

-- emptied records are sound
empty_sound : (n : ℕ) → all_sound (replicate n empty_record) ≡ true
unfolding all_sound is_sound pairwise is_in_use
empty_sound n =
    and_both (every is_sound (replicate n empty_record)) (pairwise addresses_differ (those is_in_use (replicate n empty_record)))
    (every_copy is_sound n empty_record refl) (rw (those_copy is_in_use n empty_record refl))

-- where a table is opened, its sizes are good
open_size : (t : Table) → (opened t).result ≡ 0 → bad_size t ≡ false
unfolding opened open_refusals every
open_size t h = none_refused (open_refusals t) refl h 0

-- `open` gives sound records
pub open_sound : (t : Table) → (opened t).result ≡ 0 → all_sound (opened t).table.records ≡ true
unfolding opened emptied
open_sound t h = rw (open_size t h) (empty_sound (length t.records))

-- an added record is sound
fresh_sound : (e : Entry) → is_address e.address ≡ true → is_sound (fresh_record e) ≡ true
unfolding is_sound is_in_use occupied places places_in those slots_of slots_differ pairwise every fresh_record
fresh_sound e h = rw (has_address_lem (fresh_record e) e.address h refl)

-- an added record has its address
fresh_address : (e : Entry) → is_address e.address ≡ true → address_of (fresh_record e) ≡ e.address
unfolding fresh_record
fresh_address e h = address_of_lem (fresh_record e) e.address h refl

-- a record in use that is not for the address of another differs in address
differs : (r o : Record) → not (is_for (address_of r) o) ≡ true → is_in_use o ≡ true → addresses_differ r o ≡ true
unfolding is_for addresses_differ
differs r o h u = rw (and_fails (is_in_use o) (same_address (address_of r) (address_of o)) (not-true (is_for (address_of r) o) h) u)

-- a record whose address is not in the table differs in address from every record in use
others_differ : (r : Record) (t : Table) → is_known (address_of r) t ≡ false → every (addresses_differ r) (those is_in_use t.records) ≡ true
unfolding is_known place_for
others_differ r t e =
    every_those (λ o. not (is_for (address_of r) o)) (addresses_differ r) is_in_use t.records (differs r)
    (place_none (is_for (address_of r)) t.records (ltb-false (place_for (address_of r) t) (length t.records) e))

-- sound records with a new one among them are sound
added_sound : (e : Entry) (t : Table) (i : ℕ) → all_sound t.records ≡ true → is_address e.address ≡ true → is_known e.address t ≡ false
    → all_sound (set t.records i (fresh_record e)) ≡ true
unfolding all_sound addresses_differ same_address
added_sound e t i s h k =
    and_both (every is_sound (set rs i r)) (pairwise addresses_differ (those is_in_use (set rs i r)))
    (every_set is_sound rs i r (and_left (every is_sound rs) alone s) (fresh_sound e h))
    (pairwise_those_set addresses_differ is_in_use rs i r (and_right (every is_sound rs) alone s) first second)
  where
    rs : List Record
    rs = t.records

    r : Record
    r = fresh_record e

    alone : Bool
    alone = pairwise addresses_differ (those is_in_use rs)

    first : every (addresses_differ r) (those is_in_use rs) ≡ true
    first = others_differ r t (rw (fresh_address e h) k)

    second : every (λ o. addresses_differ o r) (those is_in_use rs) ≡ true
    second =
        every_follows (addresses_differ r) (λ o. addresses_differ o r) (those is_in_use rs)
        (λ o d. rw (same_turned (address_of o) (address_of r)) d) first

-- `add` keeps the records sound
pub add_sound : (e : Entry) (t : Table) → all_sound t.records ≡ true → all_sound (added e t).table.records ≡ true
unfolding with_record add_refusals
add_sound e t s = go (ℕ_discrete (added e t).result 0)
  where
    go : Dec ((added e t).result ≡ 0) → all_sound (added e t).table.records ≡ true
    go (yes h) =
        rw (add_writes e t h)
        (added_sound e t (lowest_unused t) s (not-false (is_address e.address) (none_refusing_add e t h 2)) (none_refusing_add e t h 3))
    go (no h) = rw (add_leaves e t h) s

module _ {A K : Type 0} (k : A → K) where
  -- one element more, or none more, in front of lists that show the same
  one_more : (b : Bool) (x y : A) (xs ys : List A) → k x ≡ k y → map k xs ≡ map k ys → map k (pick b (x ∷ xs) xs) ≡ map k (pick b (y ∷ ys) ys)
  one_more true x y xs ys e h = ap₂ ◌∷◌ e h
  one_more false x y xs ys e h = h

  -- those chosen show the same with one replaced by another that is chosen as it was and shows the same
  those_kept : (u : A → Bool) (xs : List A) (i : ℕ) (y d : A) → u y ≡ u (get_or xs i d) → k y ≡ k (get_or xs i d)
      → map k (those u (set xs i y)) ≡ map k (those u xs)
  unfolding those
  those_kept u [] i y d c e = refl
  those_kept u (x ∷ xs) zero y d c e = rw c (one_more (u x) y x (those u xs) (those u xs) e refl)
  those_kept u (x ∷ xs) (suc i) y d c e = one_more (u x) x x (those u (set xs i y)) (those u xs) refl (those_kept u xs i y d c e)

  -- a test of what each element shows
  every_shown : (q : K → Bool) (xs : List A) → every (λ x. q (k x)) xs ≡ every q (map k xs)
  unfolding every
  every_shown q [] = refl
  every_shown q (x ∷ xs) = rw (every_shown q xs)

  -- and of what each two show
  pairwise_shown : (q : K → K → Bool) (xs : List A) → pairwise (λ x y. q (k x) (k y)) xs ≡ pairwise q (map k xs)
  unfolding pairwise
  pairwise_shown q [] = refl
  pairwise_shown q (x ∷ xs) = rw (every_shown (q (k x)) xs, pairwise_shown q xs)

-- the addresses of records in use differ as before with one replaced by another that is in use as it was, for the same address
differ_kept : (rs : List Record) (i : ℕ) (r d : Record) → is_in_use r ≡ is_in_use (get_or rs i d) → address_of r ≡ address_of (get_or rs i d)
    → pairwise addresses_differ (those is_in_use (set rs i r)) ≡ pairwise addresses_differ (those is_in_use rs)
unfolding addresses_differ
differ_kept rs i r d u e =
    pairwise_shown address_of others (those is_in_use (set rs i r))
    ∙ ap (pairwise others) (those_kept address_of is_in_use rs i r d u e) ∙ sym (pairwise_shown address_of others (those is_in_use rs))
  where
    others : List ℕ → List ℕ → Bool
    others a b = not (same_address a b)

-- records with the same 64 bytes have the same address
same_bytes : (r o : Record) → r.address ≡ o.address → address_of r ≡ address_of o
unfolding address_of
same_bytes r o e = rw e

-- the smaller of two numbers is at most the second
smaller_most : (a b : ℕ) → smaller a b ≤ b
unfolding smaller
smaller_most a b = go (ltb a b) refl
  where
    go : (t : Bool) → ltb a b ≡ t → pick t a b ≤ b
    go true e = omega (arith, ltb-true a b e)
    go false e = omega arith

-- where a request succeeds, it matched a live publication, or gives a body without presenting a tag
matched_or_told : (c : Case) → Grants c → length c.own.slots ≡ 8
    → (is_live c.clock (place_at (places c.own) (success_of c).slot) ≡ true) ⊎ (((success_of c).slot ≡ 8) × (0 < (success_of c).length))
unfolding success_of success_for
matched_or_told c g eight = go (has_match c.head) refl
  where
    k : ℕ
    k = presented c.own c.clock c.text c.head

    go : (b : Bool) → has_match c.head ≡ b
        → (is_live c.clock (place_at (places c.own) (pick b k 8)) ≡ true) ⊎ ((pick b k 8 ≡ 8) × (0 < body_length c.text c.head))
    go true m = inl (match_live c g eight m)
    go false m = inr (refl, g.told m)

module _ (t : Table) (buffer : List ℕ) (x : Input) (h : every is_held t.records ≡ true) (s : all_sound t.records ≡ true) where
  -- each record is sound by itself
  each_sound : every is_sound t.records ≡ true
  unfolding all_sound
  each_sound = and_left (every is_sound t.records) _ s

  -- where a request succeeds, the record of its address is in use
  own_used : is_success (outcome_of (case_of t buffer x)) ≡ true → is_in_use (case_of t buffer x).own ≡ true
  unfolding case_of record_at is_known place_for is_for
  own_used e =
      let known = ltb-true _ _ (grants (case_of t buffer x) e).known in
      and_left _ _ (place_holds (is_for (uri_of x.request (head_of x.request))) t.records empty_record known)

  -- and everything holds that a success rests on
  rests : is_success (outcome_of (case_of t buffer x)) ≡ true → Rests (success_of (case_of t buffer x)) (case_of t buffer x).own
  unfolding success_of success_for granted
  rests e =
      record {
        whole = held.whole;
        used = own_used e;
        sound = own_passes t buffer x is_sound each_sound e;
        listed = g.listed;
        body_fits = g.body_fits;
        time_fits = smaller_most _ _;
        not_back = g.not_back;
        in_time = g.in_time;
        unspent = let other : (c.own.spent ≡ 4294967295 → ⊥) = g.unspent in omega (arith, held.spent_fits);
        start_fits = held.start_fits;
        matched_or_told = matched_or_told c g (whole_slots c.own held.whole);
      }
    where
      c : Case
      c = case_of t buffer x

      g : Grants c
      g = grants c e

      held : Holds c.own
      held = held_found c.own (own_passes t buffer x is_held h e)

  -- a success leaves sound records
  success_sound : is_success (outcome_of (case_of t buffer x)) ≡ true
      → all_sound (set t.records (place_for (uri_of x.request (head_of x.request)) t)
      (record_after (success_of (case_of t buffer x)) (case_of t buffer x).own)) ≡ true
  unfolding all_sound case_of record_at
  success_sound e =
      and_both _ _ (every_set is_sound t.records i r each_sound (sound_after _ _ (rests e)))
      (differ_kept t.records i r empty_record (in_use_kept _ r kept) (same_bytes r _ kept.address) ∙ and_right (every is_sound t.records) _ s)
    where
      i : ℕ
      i = place_for (uri_of x.request (head_of x.request)) t

      r : Record
      r = record_after (success_of (case_of t buffer x)) (case_of t buffer x).own

      kept : Keeps (case_of t buffer x).own r
      kept = keeps (success_of (case_of t buffer x)) (case_of t buffer x).own

  -- `handle` keeps the records sound
  pub handle_sound : all_sound (done t buffer x).table.records ≡ true
  unfolding done done_with
  handle_sound = go (is_success (outcome_of (case_of t buffer x))) refl
    where
      go : (b : Bool) → is_success (outcome_of (case_of t buffer x)) ≡ b → all_sound (done t buffer x).table.records ≡ true
      go true e = rw (records_after t buffer x e) (success_sound e)
      go false e = rw ((leaves t buffer x).table_stays e) s
