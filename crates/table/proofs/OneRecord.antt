-- A call changes one record and its own part of the store at most.
use mathlib.Core.Path.{◌≡◌, refl}
use mathlib.Core.Bool.{Bool, true, false}
use mathlib.Core.List.{List}
use Prim.Native.Nat.{ℕ, ◌+◌, ◌*◌, ◌<◌, ◌≤◌}
use native.Mathlib.Decide.{ℕ_discrete}
use native.Mathlib.Omega.{arith}
use lib.Dec.{eqb, ltb}
use lib.ListN.{length, get_or, replicate, length-set, length-replicate}
use lib.Seq.{get_or-set_other}
use borrow.Author.Tests.{ltb-true, ltb-false, eqb-true, not-false, eq-eqb}
use Rattle.laws.specs.Lists.{every}
use Rattle.laws.specs.First.{first_of, tests}
use Rattle.laws.proofs.Tests.{or_left, or_right, every_at}
use Rattle.laws.proofs.Rows.{none_applied, none_refused}
use Rattle.laws.proofs.Parts.{put_length, put_before, put_behind}
use Rattle.request.specs.Head.{head_of, uri_of}
use Rattle.request.specs.Fields.{body}
use Rattle.record.specs.Places.{is_whole, empty_record}
use Rattle.success.specs.Store.{part_at, part_of, with_part}
use Rattle.record.specs.declared.Record.{Record}
use Rattle.success.proofs.StoreLaws.{part_after_length, whole_slots}
use Rattle.response.specs.Outcomes.{is_success}
use Rattle.publish.specs.Refusals.{Case, is_bad_size, refusals, size_rows, request_rows, reading_rows, address_rows, content_rows, room_rows, outcome_of}
use Rattle.publish.specs.Step.{success_of, own_after, part_afterwards}
use Rattle.table.specs.Table.{Table, bad_size, place_for, is_known, record_at, with_record}
use Rattle.table.specs.Add.{Entry, added, add_refusals, lowest_unused, fresh_record}
use Rattle.table.specs.Handle.{Input, done, done_with, case_of, table_after}
use Rattle.table.proofs.Untouched.{leaves, add_leaves}

-- at most record i and its own part differ between the two tables
pub record OneRecord (t t' : Table) (i : ℕ) : Type 0 where
  -- there are as many records
  pub as_many : length t'.records ≡ length t.records
  -- and as many bytes in the store
  pub as_long : length t'.store ≡ length t.store
  -- every other record is as before
  pub other_records : (j : ℕ) → (j ≡ i → ⊥) → (z : Record) → get_or t'.records j z ≡ get_or t.records j z
  -- every byte before the part is as before
  pub bytes_before : (p : ℕ) → p < 4096 * i → get_or t'.store p 0 ≡ get_or t.store p 0
  -- every byte behind the part is as before
  pub bytes_behind : (p : ℕ) → 4096 * i + 4096 ≤ p → get_or t'.store p 0 ≡ get_or t.store p 0

-- a table that stays differs nowhere
unchanged : (t : Table) (i : ℕ) → OneRecord t t i
unchanged t i =
    record {
      as_many = refl;
      as_long = refl;
      other_records = λ j h z. refl;
      bytes_before = λ p h. refl;
      bytes_behind = λ p h. refl;
    }

-- another record i and 4,096 other bytes for it, where the store has them
pub one_written : (t : Table) (i : ℕ) (r : Record) (bs : List ℕ) → length bs ≡ 4096 → 4096 * i + 4096 ≤ length t.store
    → OneRecord t (with_record t i r bs) i
unfolding with_record with_part part_at
one_written t i r bs e h =
    record {
      as_many = length-set t.records i r;
      as_long = put_length t.store (4096 * i) bs fits;
      other_records = λ j k z. get_or-set_other t.records i j r z k;
      bytes_before = λ p k. put_before t.store (4096 * i) bs fits p 0 k;
      bytes_behind = λ p k. put_behind t.store (4096 * i) bs fits p 0 (omega arith);
    }
  where
    fits : 4096 * i + length bs ≤ length t.store
    fits = omega arith

-- sizes that are not refused: the store has 4,096 bytes for each record
pub good_size : (records store : ℕ) → is_bad_size records store ≡ false → store ≡ 4096 * records
unfolding is_bad_size
good_size records store e =
    eqb-true store (4096 * records)
    (not-false (eqb store (4096 * records)) (or_right (ltb 16 records) _ (or_right (eqb records 0) _ e)))

-- and there are at most sixteen records
pub few_records : (records store : ℕ) → is_bad_size records store ≡ false → records ≤ 16
unfolding is_bad_size
few_records records store e = ltb-false 16 records (or_left (ltb 16 records) _ (or_right (eqb records 0) _ e))

-- the part of a record lies in a store of good size
pub part_lies : (t : Table) (i : ℕ) → bad_size t ≡ false → i < length t.records → 4096 * i + 4096 ≤ length t.store
unfolding bad_size
part_lies t i e h =
    let size : length t.store ≡ 4096 * length t.records = good_size (length t.records) (length t.store) e in omega arith

-- where a request succeeds, no refusal applied
pub none_refusing : (c : Case) → is_success (outcome_of c) ≡ true → (k : ℕ) → get_or (tests (refusals c)) k false ≡ false
unfolding outcome_of refusals request_rows size_rows reading_rows address_rows content_rows room_rows every is_success
none_refusing c e = none_applied is_success (refusals c) _ refl e

-- where a request succeeds, the sizes are good
pub success_size : (t : Table) (buffer : List ℕ) (x : Input) → is_success (outcome_of (case_of t buffer x)) ≡ true → bad_size t ≡ false
unfolding case_of refusals size_rows bad_size
success_size t buffer x e = none_refusing (case_of t buffer x) e 1

-- where a request succeeds, its address is in the table
pub success_known : (t : Table) (buffer : List ℕ) (x : Input) → is_success (outcome_of (case_of t buffer x)) ≡ true
    → place_for (uri_of x.request (head_of x.request)) t < length t.records
unfolding case_of refusals size_rows request_rows reading_rows address_rows is_known
success_known t buffer x e = ltb-true _ _ (not-false _ (none_refusing (case_of t buffer x) e 8))

-- a success writes 4,096 bytes
success_part : (c : Case) (bs : List ℕ) → is_success (outcome_of c) ≡ true → is_whole c.own ≡ true → length (part_afterwards c bs) ≡ 4096
unfolding part_afterwards
success_part c bs e w = rw e (part_after_length (success_of c) c.own (body c.text c.head) bs (whole_slots c.own w))

-- a success changes one record and its part
success_one : (t : Table) (buffer : List ℕ) (x : Input) → every is_whole t.records ≡ true → is_success (outcome_of (case_of t buffer x)) ≡ true
    → OneRecord t (table_after t (case_of t buffer x)) (place_for (uri_of x.request (head_of x.request)) t)
unfolding table_after case_of record_at
success_one t buffer x w e = one_written t i (own_after c) bs long (part_lies t i (success_size t buffer x e) known)
  where
    c : Case
    c = case_of t buffer x

    i : ℕ
    i = place_for (uri_of x.request (head_of x.request)) t

    bs : List ℕ
    bs = part_afterwards c (part_of i t.store)

    known : i < length t.records
    known = success_known t buffer x e

    long : length bs ≡ 4096
    long = success_part c (part_of i t.store) e (every_at is_whole t.records i empty_record w known)

-- where a request succeeds, the table is the one after a success
pub handle_writes : (t : Table) (buffer : List ℕ) (x : Input) → is_success (outcome_of (case_of t buffer x)) ≡ true
    → (done t buffer x).table ≡ table_after t (case_of t buffer x)
unfolding done done_with
handle_writes t buffer x e = rw e

-- `handle` changes one record and its part at most: those of the address that the request is for
pub handle_one : (t : Table) (buffer : List ℕ) (x : Input) → every is_whole t.records ≡ true
    → OneRecord t (done t buffer x).table (place_for (uri_of x.request (head_of x.request)) t)
unfolding done done_with
handle_one t buffer x w = go (is_success (outcome_of (case_of t buffer x))) refl
  where
    go : (b : Bool) → is_success (outcome_of (case_of t buffer x)) ≡ b
        → OneRecord t (done t buffer x).table (place_for (uri_of x.request (head_of x.request)) t)
    go true e = rw (handle_writes t buffer x e) (success_one t buffer x w e)
    go false e = rw ((leaves t buffer x).table_stays e) (unchanged t (place_for (uri_of x.request (head_of x.request)) t))

-- where an address is added, no refusal applied
pub none_refusing_add : (e : Entry) (t : Table) → (added e t).result ≡ 0 → (k : ℕ) → get_or (tests (add_refusals e t)) k false ≡ false
unfolding added add_refusals every
none_refusing_add e t h = none_refused (add_refusals e t) refl h

-- where an address is added, the lowest unused record and its part are written
pub add_writes : (e : Entry) (t : Table) → (added e t).result ≡ 0
    → (added e t).table ≡ with_record t (lowest_unused t) (fresh_record e) (replicate 4096 0)
unfolding added
add_writes e t h = rw (eq-eqb (first_of (add_refusals e t) 0) 0 h)

-- where an address is added, the sizes are good
add_size : (e : Entry) (t : Table) → (added e t).result ≡ 0 → bad_size t ≡ false
unfolding add_refusals
add_size e t h = none_refusing_add e t h 0

-- where an address is added, a record is unused
add_unused : (e : Entry) (t : Table) → (added e t).result ≡ 0 → lowest_unused t < length t.records
unfolding add_refusals
add_unused e t h =
    ltb-true (lowest_unused t) (length t.records) (not-false (ltb (lowest_unused t) (length t.records)) (none_refusing_add e t h 4))

-- `add` changes one record and its part at most: those of the lowest unused one
pub add_one_record : (e : Entry) (t : Table) → OneRecord t (added e t).table (lowest_unused t)
add_one_record e t = go (ℕ_discrete (added e t).result 0)
  where
    go : Dec ((added e t).result ≡ 0) → OneRecord t (added e t).table (lowest_unused t)
    go (yes h) =
        rw (add_writes e t h)
        (one_written t (lowest_unused t) (fresh_record e) (replicate 4096 0) (length-replicate {A = ℕ} 4096 0)
        (part_lies t (lowest_unused t) (add_size e t h) (add_unused e t h)))
    go (no h) = rw (add_leaves e t h) (unchanged t (lowest_unused t))
