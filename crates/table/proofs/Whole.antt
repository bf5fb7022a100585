-- Records stay as their type has them, whatever call is made: 64 address bytes, eight slots, 32-bit start and spent count.
use mathlib.Core.Path.{◌≡◌, refl, ◌∙◌, ap}
use mathlib.Core.Bool.{Bool, true, false}
use mathlib.Core.List.{List}
use Prim.Native.Nat.{ℕ, ◌<◌}
use native.Mathlib.Decide.{ℕ_discrete}
use native.Mathlib.Omega.{arith}
use lib.Dec.{ltb}
use lib.ListN.{length, set}
use borrow.Author.Tests.{ltb-true, lt-ltb, not-false}
use Rattle.laws.specs.Choose.{pick}
use Rattle.laws.specs.Lists.{every}
use Rattle.laws.proofs.Tests.{and_left, and_right, every_at, every_set, every_copy, every_follows}
use Rattle.request.specs.Head.{head_of, uri_of}
use Rattle.record.specs.Places.{empty_record, is_whole}
use Rattle.record.specs.Address.{is_address}
use Rattle.success.specs.After.{success_number, record_after}
use Rattle.record.specs.declared.Record.{Record}
use Rattle.success.specs.declared.Success.{Success}
use Rattle.record.proofs.AddressLaws.{padded_length}
use Rattle.success.proofs.StoreLaws.{whole_after}
use Rattle.response.specs.Outcomes.{is_success}
use Rattle.publish.specs.Refusals.{outcome_of}
use Rattle.publish.specs.Step.{success_of, own_after}
use Rattle.table.specs.Table.{Table, bad_size, place_for, is_known, record_at, with_record}
use Rattle.table.specs.HeldRecord.{is_held}
use Rattle.table.specs.Open.{opened, emptied}
use Rattle.table.specs.Add.{Entry, added, add_refusals, lowest_unused, fresh_record}
use Rattle.table.specs.Handle.{Input, done, done_with, case_of, table_after}
use Rattle.table.proofs.Untouched.{leaves, add_leaves}
use Rattle.table.proofs.OneRecord.{handle_writes, none_refusing_add, add_writes}
use Rattle.table.proofs.GrantedLaws.{grants}

-- what the test says of a record
pub record Holds (r : Record) : Type 0 where
  pub whole : is_whole r ≡ true
  pub start_fits : r.start < 4294967296
  pub spent_fits : r.spent < 4294967296

-- a record that passes the test is so
pub held_found : (r : Record) → is_held r ≡ true → Holds r
unfolding is_held
held_found r e =
    let fits = and_right (is_whole r) _ e in
    record {
      whole = and_left (is_whole r) _ e;
      start_fits = ltb-true _ _ (and_left (ltb r.start 4294967296) _ fits);
      spent_fits = ltb-true _ _ (and_right (ltb r.start 4294967296) _ fits);
    }

-- a record that is so passes the test
held_tested : (r : Record) → Holds r → is_held r ≡ true
unfolding is_held
held_tested r h = rw (h.whole, lt-ltb _ _ h.start_fits, lt-ltb _ _ h.spent_fits)

-- records as their type has them are whole
pub held_whole : (rs : List Record) → every is_held rs ≡ true → every is_whole rs ≡ true
held_whole rs e = every_follows is_held is_whole rs (λ r h. (held_found r h).whole) e

-- `open` leaves records as their type has them
pub open_held : (t : Table) → every is_held t.records ≡ true → every is_held (opened t).table.records ≡ true
unfolding opened emptied is_held is_whole
open_held t h = go (bad_size t)
  where
    go : (b : Bool) → every is_held (pick b t (emptied t)).records ≡ true
    go true = h
    go false = every_copy is_held (length t.records) empty_record refl

-- an added record is as its type has it
fresh_held : (e : Entry) → is_address e.address ≡ true → e.start < 4294967296 → e.spent < 4294967296 → is_held (fresh_record e) ≡ true
unfolding fresh_record is_whole
fresh_held e a h k =
    held_tested (fresh_record e) record { whole = rw (padded_length e.address a); start_fits = h; spent_fits = k }

-- and so does `add`, given a start and a spent count of 32 bits
pub add_held : (e : Entry) (t : Table) → e.start < 4294967296 → e.spent < 4294967296 → every is_held t.records ≡ true
    → every is_held (added e t).table.records ≡ true
unfolding with_record add_refusals
add_held e t h k w = go (ℕ_discrete (added e t).result 0)
  where
    go : Dec ((added e t).result ≡ 0) → every is_held (added e t).table.records ≡ true
    go (yes z) =
        rw (add_writes e t z)
        (every_set is_held t.records (lowest_unused t) (fresh_record e) w
        (fresh_held e (not-false (is_address e.address) (none_refusing_add e t z 2)) h k))
    go (no z) = rw (add_leaves e t z) w

-- the record after a success is as its type has it, where another tag could be spent
after_held : (x : Success) (r : Record) → Holds r → (r.spent ≡ 4294967295 → ⊥) → is_held (record_after x r) ≡ true
unfolding record_after success_number
after_held x r h unspent =
    held_tested (record_after x r)
    record { whole = whole_after x r ∙ h.whole; start_fits = h.start_fits; spent_fits = omega (arith, h.spent_fits) }

module _ (t : Table) (buffer : List ℕ) (x : Input) where
  -- where a request succeeds, a test that every record passes is passed by the record of its address
  pub own_passes : (f : Record → Bool) → every f t.records ≡ true → is_success (outcome_of (case_of t buffer x)) ≡ true
      → f (case_of t buffer x).own ≡ true
  unfolding case_of is_known record_at
  own_passes f h e = every_at f t.records _ empty_record h (ltb-true _ _ (grants (case_of t buffer x) e).known)

  -- and the records after it are those before with that one replaced
  pub records_after : is_success (outcome_of (case_of t buffer x)) ≡ true
      → (done t buffer x).table.records
      ≡ set t.records (place_for (uri_of x.request (head_of x.request)) t)
      (record_after (success_of (case_of t buffer x)) (case_of t buffer x).own)
  unfolding table_after with_record own_after case_of
  records_after e = ap (λ t. t.records) (handle_writes t buffer x e) ∙ rw e

  -- `handle` leaves records as their type has them
  pub handle_held : every is_held t.records ≡ true → every is_held (done t buffer x).table.records ≡ true
  unfolding done done_with
  handle_held h = go (is_success (outcome_of (case_of t buffer x))) refl
    where
      go : (b : Bool) → is_success (outcome_of (case_of t buffer x)) ≡ b → every is_held (done t buffer x).table.records ≡ true
      go true e =
          rw (records_after e)
          (every_set is_held t.records _ _ h
          (after_held _ _ (held_found _ (own_passes is_held h e)) (grants (case_of t buffer x) e).unspent))
      go false e = rw ((leaves t buffer x).table_stays e) h
