-- A success of `handle` leaves what the paper says: the record of its address, field by field, and every byte of its part of the store.
use mathlib.Core.Path.{◌≡◌, refl, sym, ◌∙◌, ap}
use mathlib.Core.Bool.{Bool, true, false, ◌&&◌}
use mathlib.Core.List.{List}
use mathlib.Core.Logic.{◌⊎◌, inl, inr}
use Prim.Native.Nat.{ℕ, ◌+◌, ◌*◌, ◌<◌, ◌≤◌}
use native.Mathlib.Decide.{dec_lt}
use native.Mathlib.Omega.{arith}
use lib.Dec.{ltb}
use lib.ListN.{length, get_or}
use lib.Seq.{get_or-set_same}
use borrow.Author.Tests.{ltb-true, lt-ltb, le-ltb}
use Rattle.laws.specs.Choose.{pick}
use Rattle.laws.specs.Lists.{every, part, put_at}
use Rattle.laws.proofs.Tests.{and_right}
use Rattle.laws.proofs.Rows.{none_applies}
use Rattle.laws.proofs.Parts.{part_at_lem, part_is, put_length, put_before, put_behind, put_part}
use Rattle.tag.specs.Tag.{tag_of}
use Rattle.request.specs.Head.{head_of, uri_of}
use Rattle.record.specs.Places.{empty_record, is_whole}
use Rattle.success.specs.Store.{room_at, part_at, part_of, with_part}
use Rattle.success.specs.After.{success_number, given_tag, has_body, places_after, record_after, with_body, part_after}
use Rattle.record.specs.declared.Record.{Record}
use Rattle.success.specs.declared.Success.{Success}
use Rattle.record.proofs.Places.{place_at, taken_below}
use Rattle.success.proofs.StoreLaws.{slots_of_length, places_after_length, part_after_length}
use Rattle.success.proofs.Stands.{run_out, place_stays}
use Rattle.success.proofs.AfterLaws.{places_after_lem, live_after, byte_after, zero_outside}
use Rattle.success.proofs.SuccessLaws.{part_whole, byte_of, byte_in}
use Rattle.response.specs.Outcomes.{is_success}
use Rattle.publish.specs.Refusals.{refusals, outcome_of}
use Rattle.publish.specs.Step.{success_for, success_of, part_afterwards}
use Rattle.response.specs.declared.Outcome.TheVariants.{Granted}
use Rattle.table.specs.Table.{Table, place_for, record_at, with_record}
use Rattle.table.specs.Handle.{Input, done, done_with, case_of, table_after}
use Rattle.table.proofs.AfterSuccess.{head, time, given, size, slot, from, AfterSuccess}
use Rattle.table.proofs.OneRecord.{none_refusing, success_size, success_known, handle_writes, part_lies}
use Rattle.table.proofs.GrantedLaws.{grants}
use Rattle.table.proofs.SlotLaws.{eight_slots, written_is, slot_fits, other, new_body, old_body, ended}
use Rattle.table.proofs.AskLaws.{body_size}
use Rattle.table.proofs.Whole.{records_after}

module _ (t : Table) (buffer : List ℕ) (x : Input) (w : every is_whole t.records ≡ true)
    (e : is_success (outcome_of (case_of t buffer x)) ≡ true) where
  -- the place of the request's address
  abbrev i : ℕ
  i = place_for (uri_of x.request (head_of x.request)) t

  -- the record there
  abbrev r : Record
  r = record_at t i

  -- the success that the request is
  abbrev y : Success
  y = success_for r x.clock x.request (head x)

  -- its slot
  abbrev k : ℕ
  k = slot x i r

  -- the part of the store before it
  abbrev bs : List ℕ
  bs = part_of i t.store

  -- the address is in the table
  known : i < length t.records
  known = success_known t buffer x e

  -- its part lies in the store
  lies : 4096 * i + 4096 ≤ length t.store
  lies = part_lies t i (success_size t buffer x e) known

  -- the body has at most 512 bytes
  short : length (given x) ≤ 512
  unfolding case_of
  short = omega (arith, body_size x.request (head x), (grants (case_of t buffer x) e).body_fits)

  -- the body fits its room
  given_fits : 0 < time x → 512 * k + length (given x) ≤ length bs
  given_fits l = omega (arith, short, slot_fits t buffer x w e l, part_whole t.store i lies)

  -- there stands the body given
  given_at : 0 < time x → 0 < size x → (j : ℕ) → j < length (given x) → get_or (with_body y r (given x) bs) (512 * k + j) 0 ≡ get_or (given x) j 0
  unfolding with_body has_body room_at success_for
  given_at l b j q =
      rw (lt-ltb 0 (size x) b, lt-ltb 0 (time x) l, written_is t buffer x w e)
      (sym (part_at_lem (put_at bs (512 * k) (given x)) (512 * k) (512 * k + length (given x)) j 0 (omega arith))
      ∙ ap (λ (s : List ℕ). get_or s j 0) (put_part bs (512 * k) (given x) (given_fits l)))

  -- in any other room, and where no body is given, stands what was there
  kept_at : (n j : ℕ) → (n ≡ k → ⊥) ⊎ (size x ≡ 0) → j < 512 → get_or (with_body y r (given x) bs) (512 * n + j) 0 ≡ get_or bs (512 * n + j) 0
  unfolding with_body has_body room_at success_for
  kept_at n j (inr z) q = rw (le-ltb 0 (size x) (omega arith))
  kept_at n j (inl a) q = rw (written_is t buffer x w e) (go (ltb 0 (size x) && ltb 0 (time x)) refl (dec_lt n k))
    where
      go : (b : Bool) → (ltb 0 (size x) && ltb 0 (time x)) ≡ b → Dec (n < k)
          → get_or (pick b (put_at bs (512 * k) (given x)) bs) (512 * n + j) 0 ≡ get_or bs (512 * n + j) 0
      go false f d = refl
      go true f d = around (given_fits (ltb-true _ _ (and_right (ltb 0 (size x)) _ f))) d
        where
          around : 512 * k + length (given x) ≤ length bs → Dec (n < k)
              → get_or (put_at bs (512 * k) (given x)) (512 * n + j) 0 ≡ get_or bs (512 * n + j) 0
          around m (yes d) = put_before bs (512 * k) (given x) m (512 * n + j) 0 (omega arith)
          around m (no d) = put_behind bs (512 * k) (given x) m (512 * n + j) 0 (omega (arith, short))

  -- the part after
  abbrev part' : List ℕ
  part' = part_after y r (given x) bs

  -- it has 4,096 bytes
  part_long : length part' ≡ 4096
  part_long = part_after_length y r (given x) bs (eight_slots t buffer x w e)

  -- the store after
  abbrev store' : List ℕ
  store' = with_part i part' t.store

  -- an occupied place is one of eight
  below : (n : ℕ) → (place_at (places_after y r) n).taken ≡ true → n < 8
  below n q = omega (arith, taken_below (places_after y r) n q, places_after_length y r, eight_slots t buffer x w e)

  -- a byte of a live body
  live_byte : (n j : ℕ) → (place_at (places_after y r) n).taken ≡ true → j < (place_at (places_after y r) n).slot.length → j < 512
      → get_or store' (from x i r n + j) 0 ≡ get_or (with_body y r (given x) bs) (512 * n + j) 0
  live_byte n j q l m =
      byte_in t.store part' i n j part_long lies (below n q) m ∙ byte_after y r (given x) bs n j m ∙ rw (q, lt-ltb j _ l)

  -- the body given stands at its slot's place
  body_in : 0 < time x → 0 < size x → part store' (from x i r k) (from x i r k + length (given x)) ≡ given x
  unfolding with_part part_at
  body_in l b = part_is store' (given x) (from x i r k) (omega (arith, as_long, lies, slot_fits t buffer x w e l, short)) bytes
    where
      as_long : length store' ≡ length t.store
      as_long = put_length t.store (4096 * i) part' (omega (arith, part_long, lies))

      bytes : (j : ℕ) → j < length (given x) → get_or store' (from x i r k + j) 0 ≡ get_or (given x) j 0
      bytes j q =
          let near : j < size x = omega (arith, body_size x.request (head x)) in
          live_byte k j (rw (new_body t buffer x w e l b)) (rw (new_body t buffer x w e l b) near) (omega (arith, short)) ∙ given_at l b j q

  -- the record after
  abbrev r' : Record
  r' = record_after y r

  -- where no refusal applies, tag and time are given
  outcome_is : outcome_of (case_of t buffer x) ≡ Granted (tag_of r.start (r.spent + 1)) (time x)
  unfolding outcome_of case_of given_tag success_number
  outcome_is = none_applies (refusals (case_of t buffer x)) _ (none_refusing (case_of t buffer x) e)

  -- at the record and the part that a success writes all of it holds
  left : AfterSuccess x i r r' t.store store' (outcome_of (case_of t buffer x))
  unfolding record_after success_number success_for
  left =
      record {
        gives = outcome_is;
        spends_one = refl;
        sets_clock = refl;
        same = (refl, refl, refl);
        eight = (slots_of_length (places_after y r) ∙ places_after_length y r ∙ eight_slots t buffer x w e, rw (places_after_lem y r));
        live_only = live_after y r;
        frees = λ n o a b. rw (places_after_lem y r) (other t buffer x w e n o ∙ run_out x.clock _ a b);
        stays = λ n o a. rw (places_after_lem y r) (other t buffer x w e n o ∙ place_stays x.clock _ a);
        there = slot_fits t buffer x w e;
        writes = λ l b. rw (places_after_lem y r) (new_body t buffer x w e l b);
        renews = λ l z. rw (places_after_lem y r) (old_body t buffer x w e l z);
        ends = λ z m. rw (places_after_lem y r) (ended t buffer x w e z m);
        stores = body_in;
        long = body_size x.request (head x);
        bodies_stay = λ n j o q l m.
            let q' : (place_at (places_after y r) n).taken ≡ true = rw (places_after_lem y r) at q in
            live_byte n j q' (rw (places_after_lem y r) at l) m ∙ kept_at n j o m ∙ byte_of t.store i n j (below n q') m;
        zeros = λ n j a b o.
            byte_in t.store part' i n j part_long lies a b ∙ zero_outside y r (given x) bs n j b (rw (places_after_lem y r) at o);
      }

  -- `handle` writes that record
  record_is : record_at (done t buffer x).table i ≡ r'
  unfolding record_at case_of success_of
  record_is = ap (λ rs. get_or rs i empty_record) (records_after t buffer x e) ∙ get_or-set_same t.records i _ empty_record known

  -- and that part
  store_is : (done t buffer x).table.store ≡ store'
  unfolding table_after with_record part_afterwards case_of success_of
  store_is = ap (λ t. t.store) (handle_writes t buffer x e) ∙ rw e

-- what comes back is what the request comes to
come_to : (t : Table) (buffer : List ℕ) (x : Input) → (done t buffer x).handled.outcome ≡ outcome_of (case_of t buffer x)
unfolding done done_with
come_to t buffer x = refl

-- `handle` leaves after a success what it must
pub success_leaves : (t : Table) (buffer : List ℕ) (x : Input) → every is_whole t.records ≡ true
    → is_success (done t buffer x).handled.outcome ≡ true
    → let i = place_for (uri_of x.request (head_of x.request)) t in
    let d = done t buffer x in
    AfterSuccess x i (record_at t i) (record_at d.table i) t.store d.table.store d.handled.outcome
success_leaves t buffer x w e =
    let f : is_success (outcome_of (case_of t buffer x)) ≡ true = rw (come_to t buffer x) at e in
    rw (record_is t buffer x w f, store_is t buffer x w f, come_to t buffer x) (left t buffer x w f)
