-- What is settled over the looks and the one record taken out is what is settled of the lent table. Sizes that are good leave at most
-- sixteen records, so that all are looked at; with sizes that are not, both are refused before a record has a part in it.
use mathlib.Core.Path.{◌≡◌, refl, sym, ◌∙◌, ap}
use mathlib.Core.Bool.{Bool, true, false, not}
use mathlib.Core.List.{List, [], ◌∷◌, ◌++◌, map}
use Prim.Native.Nat.{ℕ, zero, suc, ◌≤◌, zero-le}
use native.Mathlib.Nat.{le_refl, not-suc-le-zero, le_of_suc-le-suc}
use native.Mathlib.Omega.{arith}
use lib.Dec.{eqb, ltb}
use lib.ListN.{length, take, drop, set, replicate}
use lib.Seq.{set_out}
use borrow.Author.Tests.{ltb-false}
use Rattle.laws.specs.Choose.{pick}
use Rattle.laws.specs.First.{first_of}
use Rattle.laws.specs.Lists.{every, place_of}
use Rattle.request.specs.Head.{head_of, uri_of}
use Rattle.record.specs.Places.{empty_record}
use Rattle.record.specs.Sound.{all_sound}
use Rattle.success.specs.Store.{part_of, with_part}
use Rattle.success.specs.After.{record_after}
use Rattle.record.specs.declared.Record.{Record}
use Rattle.lent.specs.Sixteen.{record_at as lent_at}
use Rattle.lent.specs.Look.{look_of, looks_of}
use Rattle.lent.specs.declared.look.Look.{Look}
use Rattle.lent.proofs.LookLaws.{is_long, front_looks, place_looks, unused_looks, looks_sound_lem}
use Rattle.response.specs.Outcomes.{is_silent, is_success}
use Rattle.publish.specs.Refusals.{Case, is_bad_size, size_rows, refusals, outcome_of}
use Rattle.publish.specs.Step.{answer_of, success_of, own_after, part_afterwards}
use Rattle.response.specs.declared.Outcome.TheVariants.{Silent}
use Rattle.table.specs.Table.{Table, bad_size, place_for, is_known, record_at, with_record}
use Rattle.table.specs.Open.{After, open_refusals, emptied, opened}
use Rattle.table.specs.Add.{Entry, add_refusals, lowest_unused, fresh_record, added}
use Rattle.table.specs.Handle.{Done, case_of, table_after, done_with, done}
use Rattle.table.specs.Looked.{open_result, open_store, empty_at, emptied_to, sought_in, entry_of, add_rows, add_out, add_store, begun_of, case_with, handle_out, handle_store, handle_answer}
use Rattle.table.specs.declared.handling.Begun.{Begun}
use Rattle.table.proofs.OneRecord.{few_records}
use Rattle.table.proofs.SeekLaws.{few_sought, short_whole}

-- the table of lent records and store
abbrev lent_table : List Record → List ℕ → Table
lent_table rs store = record { records = rs; store = store }

-- a record put past the end is put nowhere
past_end : (rs : List Record) (r : Record) → set rs (length rs) r ≡ rs
past_end rs r = set_out rs (length rs) r (le_refl (length rs))

-- an empty record put at so many places, one after the other
unfoldable puts : (ℕ → ℕ) → ℕ → List Record → List Record
puts at zero rs = rs
puts at (suc k) rs = set (puts at k rs) (at k) empty_record

-- past the end, that changes nothing
puts_past : (k : ℕ) (rs : List Record) → puts (λ i. length rs) k rs ≡ rs
unfolding puts
puts_past zero rs = refl
puts_past (suc k) rs = rw (puts_past k rs) (past_end rs empty_record)

-- at the first places: the first record is an empty one, and the others follow
puts_first : (k : ℕ) (r : Record) (rs : List Record) → puts (λ i. i) (suc k) (r ∷ rs) ≡ empty_record ∷ puts (λ i. i) k rs
unfolding puts
puts_first zero r rs = refl
puts_first (suc k) r rs = ap (λ (xs : List Record). set xs (suc k) empty_record) (puts_first k r rs)

-- where there are no more records than places, all are empty
puts_all : (k : ℕ) (rs : List Record) → length rs ≤ k → puts (λ i. i) k rs ≡ replicate (length rs) empty_record
unfolding puts
puts_all zero [] h = refl
puts_all (suc k) [] h = ap (λ (xs : List Record). set xs k empty_record) (puts_all k [] zero-le)
puts_all zero (r ∷ rs) h = absurd (not-suc-le-zero h)
puts_all (suc k) (r ∷ rs) h = puts_first k r rs ∙ ap (λ (xs : List Record). empty_record ∷ xs) (puts_all k rs (le_of_suc-le-suc h))

-- the sixteen places of a table that is opened
emptied_all : (rs : List Record) → length rs ≤ 16 → emptied_to 0 (length rs) 16 rs ≡ replicate (length rs) empty_record
unfolding emptied_to empty_at puts
emptied_all rs h = puts_all 16 rs h

-- and of one that is refused
emptied_none : (rs : List Record) → emptied_to 2 (length rs) 16 rs ≡ rs
unfolding emptied_to empty_at puts
emptied_none rs = puts_past 16 rs

-- what opening leaves of lent records and store
abbrev pub put_opened : List Record → List ℕ → After
put_opened rs store =
    let result = open_result (length rs) store in
    record { result = result; table = record { records = emptied_to result (length rs) 16 rs; store = open_store (length rs) store } }

-- it is what `open` settles
pub open_looked : (rs : List Record) (store : List ℕ) → opened (record { records = rs; store = store }) ≡ put_opened rs store
unfolding opened open_refusals first_of bad_size emptied open_result open_store
open_looked rs store = go (is_bad_size (length rs) (length store)) refl
  where
    go : (b : Bool) → is_bad_size (length rs) (length store) ≡ b → opened (lent_table rs store) ≡ put_opened rs store
    go true e = rw (e, emptied_none rs)
    go false e = rw (e, emptied_all rs (few_records (length rs) (length store) e))

-- where opening succeeds, the empty record put at the sixteen places leaves no other
pub emptied_good : (rs : List Record) (store : List ℕ) → open_result (length rs) store ≡ 0
    → emptied_to (open_result (length rs) store) (length rs) 16 rs ≡ replicate (length rs) empty_record
unfolding open_result
emptied_good rs store = go (is_bad_size (length rs) (length store)) refl
  where
    go : (b : Bool) → is_bad_size (length rs) (length store) ≡ b → ◌≡◌ {A = ℕ} (pick b 2 0) 0
        → emptied_to (pick b 2 0) (length rs) 16 rs ≡ replicate (length rs) empty_record
    go true e h = absurd (omega arith)
    go false e h = emptied_all rs (few_records (length rs) (length store) e)

-- and where it is refused, it is put nowhere
pub emptied_bad : (rs : List Record) (store : List ℕ) → (open_result (length rs) store ≡ 0 → ⊥)
    → emptied_to (open_result (length rs) store) (length rs) 16 rs ≡ rs
unfolding open_result
emptied_bad rs store = go (is_bad_size (length rs) (length store))
  where
    go : (b : Bool) → (◌≡◌ {A = ℕ} (pick b 2 0) 0 → ⊥) → emptied_to (pick b 2 0) (length rs) 16 rs ≡ rs
    go true h = emptied_none rs
    go false h = absurd (h refl)

-- the looks at the lent records have 64 bytes each, where they are all looked at
abbrev pub LooksLong : List Record → Type 0
LooksLong rs = length rs ≤ 16 → every is_long (map look_of rs) ≡ true

-- what is found of an address by the looks is what the lent table says of it
pub sought_lent : (a : List ℕ) (rs : List Record) (store : List ℕ) → length rs ≤ 16 → LooksLong rs
    → sought_in a (looks_of rs) (length rs) ≡ record { sound = all_sound rs; place = place_for a (record { records = rs; store = store }) }
unfolding sought_in place_for
sought_lent a rs store h long = rw (few_sought (length rs) h, front_looks rs h, looks_sound_lem rs (long h), place_looks a rs)

-- a record and its part are written where a test holds; where it fails, the record is put past the end and the store stays
put_where : (t : Table) (b : Bool) (i : ℕ) (r other : Record) (bs : List ℕ) → pick b (with_record t i r bs) t
    ≡ record {
      records = set t.records (pick b i (length t.records)) (pick b r other);
      store = pick b (with_part i bs t.store) t.store;
    }
unfolding with_record
put_where t true i r other bs = refl
put_where t false i r other bs = rw (past_end t.records other)

module _ (rs : List Record) (store address : List ℕ) (start spent : ℕ) where
  -- what adding leaves of lent records and store: the record kept is put at its index
  abbrev pub put_added : After
  put_added =
      let out = add_out (looks_of rs) (length rs) store address start spent in
      let after = add_store (looks_of rs) (length rs) store address in
      record { result = out.result; table = record { records = set rs out.index out.kept; store = after } }

  -- the entry that is given
  abbrev entry : Entry
  entry = entry_of address start spent

  -- with sizes that are not good, both come to 2
  bad_added : is_bad_size (length rs) (length store) ≡ true
      → (first_of (add_refusals entry (lent_table rs store)) 0 ≡ 2) × (first_of (add_rows (looks_of rs) (length rs) (length store) address) 0 ≡ 2)
  unfolding add_refusals add_rows bad_size first_of
  bad_added h = (rw h, rw h)

  -- with at most sixteen records the refusals are the same
  same_rows : length rs ≤ 16 → LooksLong rs
      → add_rows (looks_of rs) (length rs) (length store) address ≡ add_refusals entry (lent_table rs store)
  unfolding add_rows add_refusals entry_of bad_size is_known place_for lowest_unused
  same_rows h long = rw (front_looks rs h, looks_sound_lem rs (long h), place_looks address rs, unused_looks rs)

  -- and the lowest unused record stands at the same place
  same_unused : length rs ≤ 16 → place_of (λ l. not l.used) (take (length rs) (looks_of rs)) ≡ lowest_unused (lent_table rs store)
  unfolding lowest_unused
  same_unused h = rw (front_looks rs h) (unused_looks rs)

  -- it is what `add` settles
  pub add_looked : LooksLong rs → added (entry_of address start spent) (record { records = rs; store = store }) ≡ put_added
  unfolding added add_out add_store
  add_looked long = go (is_bad_size (length rs) (length store)) refl
    where
      result : ℕ
      result = first_of (add_refusals entry (lent_table rs store)) 0

      go : (b : Bool) → is_bad_size (length rs) (length store) ≡ b → added entry (lent_table rs store) ≡ put_added
      go true h = rw ((bad_added h).0, (bad_added h).1, past_end rs empty_record)
      go false h =
          let few = few_records (length rs) (length store) h in
          rw (same_rows few long, same_unused few)
          (ap (λ (after : Table). record { result = result; table = after })
          (put_where (lent_table rs store) (eqb result 0) (lowest_unused (lent_table rs store)) (fresh_record entry) empty_record (replicate 4096 0)))

-- where a request is not too long, what is known of its head before its record is taken out is what its head says
pub begun_head : (ls : List Look) (n : ℕ) (s : List ℕ) → length s ≤ 4096 → (begun_of ls n s).head ≡ head_of s
unfolding begun_of
begun_head ls n s h = ap head_of (short_whole s h)

module _ (rs : List Record) (store buffer : List ℕ) (number : ℕ) where
  -- what a case leaves of lent records, store and buffer, with the record of its address at place i: where it succeeds, that one is put there
  abbrev put_case : Case → ℕ → Done
  put_case c i =
      let success = is_success (outcome_of c) in
      let m = answer_of c number in
      let after = record_after (success_of c) c.own in
      let written = with_part i (part_afterwards c (part_of i store)) store in
      record {
        handled = record { outcome = outcome_of c; length = length m };
        table = lent_table (set rs (pick success i (length rs)) (pick success after c.own)) (pick success written store);
        buffer = m ++ drop (length m) buffer;
      }

  -- it is what `handle` settles at that case
  done_put : (c : Case) → done_with (lent_table rs store) buffer number c ≡ put_case c (place_for (uri_of c.text c.head) (lent_table rs store))
  unfolding done_with table_after with_record own_after
  done_put c = go (is_success (outcome_of c)) refl
    where
      go : (b : Bool) → is_success (outcome_of c) ≡ b
          → done_with (lent_table rs store) buffer number c ≡ put_case c (place_for (uri_of c.text c.head) (lent_table rs store))
      go true e = rw e
      go false e = rw (e, past_end rs c.own)

  -- a silent outcome leaves everything as it is
  silent_put : (c : Case) (i k : ℕ) → outcome_of c ≡ Silent k
      → put_case c i ≡ record { handled = record { outcome = Silent k; length = 0 }; table = lent_table rs store; buffer = buffer }
  unfolding answer_of is_silent is_success
  silent_put c i k e = rw (e, past_end rs c.own)

-- with sizes that are not good a request is refused with 1 or 2
bad_outcome : (c : Case) → is_bad_size c.records c.store ≡ true → outcome_of c ≡ Silent (pick (ltb c.buffer 4608) 1 2)
unfolding outcome_of refusals size_rows first_of
bad_outcome c e = go (ltb c.buffer 4608) refl
  where
    go : (b : Bool) → ltb c.buffer 4608 ≡ b → outcome_of c ≡ Silent (pick (ltb c.buffer 4608) 1 2)
    go true h = rw h
    go false h = rw (h, e)

-- and with sizes that are, one above 4,096 bytes is refused with 1 or 3
long_outcome : (c : Case) → is_bad_size c.records c.store ≡ false → ltb 4096 (length c.text) ≡ true
    → outcome_of c ≡ Silent (pick (ltb c.buffer 4608) 1 3)
unfolding outcome_of refusals size_rows first_of
long_outcome c e l = go (ltb c.buffer 4608) refl
  where
    go : (b : Bool) → ltb c.buffer 4608 ≡ b → outcome_of c ≡ Silent (pick (ltb c.buffer 4608) 1 3)
    go true h = rw h
    go false h = rw (h, e, l)

module _ (rs : List Record) (store : List ℕ) (clock number : ℕ) (s answer : List ℕ) where
  -- what a request is tried against, with the lent table
  abbrev lent_case : Case
  lent_case = case_of (lent_table rs store) answer (record { clock = clock; number = number; request = s })

  -- and with the record at the place that is known before
  abbrev own_case : Begun → Case
  own_case b = case_with b (lent_at rs b.place) (length rs) (length store) (length answer) clock s

  -- what is known before, where all records are looked at and the whole request is read
  abbrev settled : Begun
  settled = record { sound = all_sound rs; place = place_for (uri_of s (head_of s)) (lent_table rs store); head = head_of s }

  same_begun : length rs ≤ 16 → length s ≤ 4096 → LooksLong rs → begun_of (looks_of rs) (length rs) s ≡ settled
  unfolding begun_of
  same_begun h k long = rw (short_whole s k, sought_lent (uri_of s (head_of s)) rs store h long)

  -- with that the two cases are the same
  same_case : own_case settled ≡ lent_case
  unfolding case_with case_of is_known record_at lent_at
  same_case = refl

  -- what handling leaves of lent records, store and buffer: the record kept is put at its index
  abbrev pub put_handled : Done
  put_handled =
      let b = begun_of (looks_of rs) (length rs) s in
      let own = lent_at rs b.place in
      let out = handle_out b own (length rs) store clock number s answer in
      let after = handle_store b own (length rs) store clock number s answer in
      record {
        handled = out.handled;
        table = record { records = set rs out.index out.kept; store = after };
        buffer = handle_answer b own (length rs) store clock number s answer;
      }

  -- it is what `handle` settles
  pub handle_looked : LooksLong rs
      → done (record { records = rs; store = store }) answer (record { clock = clock; number = number; request = s }) ≡ put_handled
  unfolding done case_of case_with handle_out handle_store handle_answer
  handle_looked long =
      done_put rs store answer number lent_case ∙ go (is_bad_size (length rs) (length store)) (ltb 4096 (length s)) refl refl
    where
      b : Begun
      b = begun_of (looks_of rs) (length rs) s

      put : Case → ℕ → Done
      put = put_case rs store answer number

      -- two cases that are silent alike leave the same
      alike : (k : ℕ) → outcome_of lent_case ≡ Silent k → outcome_of (own_case b) ≡ Silent k
          → put lent_case settled.place ≡ put (own_case b) b.place
      alike k e f = silent_put rs store answer number lent_case settled.place k e ∙ sym (silent_put rs store answer number (own_case b) b.place k f)

      go : (bad long : Bool) → is_bad_size (length rs) (length store) ≡ bad → ltb 4096 (length s) ≡ long
          → put lent_case settled.place ≡ put (own_case b) b.place
      go true l e f = alike (pick (ltb (length answer) 4608) 1 2) (bad_outcome lent_case e) (bad_outcome (own_case b) e)
      go false true e f = alike (pick (ltb (length answer) 4608) 1 3) (long_outcome lent_case e f) (long_outcome (own_case b) e f)
      go false false e f =
          ap (λ (c : Case). put c settled.place) (sym same_case)
          ∙ ap (λ (x : Begun). put (own_case x) x.place)
          (sym (same_begun (few_records (length rs) (length store) e) (ltb-false 4096 (length s) f) long))
