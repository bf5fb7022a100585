-- One sending, seen from one address: its own inputs change its record and its part as if it were alone, and others change nothing of it.
use mathlib.Core.Path.{◌≡◌, refl, sym, ◌∙◌, ap, subst}
use mathlib.Core.Bool.{Bool, true, false, true≢false}
use mathlib.Core.List.{List}
use Prim.Native.Nat.{ℕ, ◌<◌}
use lib.ListN.{length, get_or}
use borrow.Author.Tests.{ltb-true}
use Rattle.laws.specs.Choose.{pick}
use Rattle.laws.specs.Lists.{any, same}
use Rattle.laws.proofs.Tests.{and_right, and_both, same_equal, same_self, place_holds, every_at}
use Rattle.request.specs.Fields.{body}
use Rattle.record.specs.Address.{address_of, same_address}
use Rattle.record.specs.Address
use Rattle.record.specs.Places.{empty_record, is_in_use, is_whole}
use Rattle.success.specs.Store.{part_of}
use Rattle.record.specs.declared.Record.{Record}
use Rattle.success.proofs.StoreLaws.{part_after_length, whole_slots}
use Rattle.success.proofs.AfterLaws.{Keeps, keeps, in_use_kept}
use Rattle.response.specs.Outcomes.{is_success}
use Rattle.publish.specs.Refusals.{Case, outcome_of, refusals, size_rows, request_rows, reading_rows, is_bad_size}
use Rattle.publish.specs.Step.{success_of, own_after, part_afterwards}
use Rattle.table.specs.Table.{Table, place_for, is_known, record_at}
use Rattle.table.specs.Handle.{Input, table_after}
use Rattle.table.proofs.OneRecord.{none_refusing}
use Rattle.table.proofs.GrantedLaws.{grants}
use Rattle.table.proofs.Whole.{held_whole}
use Rattle.runs.specs.Reach.{rows_before, is_read, is_for}
use Rattle.runs.specs.Alone.{case_at, answered}
use Rattle.runs.proofs.Fine.{Fine}
use Rattle.runs.proofs.Sent.{uri, own_in, part_in, case_in, table_in}
use Rattle.runs.proofs.Written.{place_stays, known_stays, record_other, record_there, part_there, part_other}

-- a record that keeps its address is in use for the addresses that it was in use for
for_kept : (a : List ℕ) (r r' : Record) → Keeps r r' → Address.is_for a r' ≡ Address.is_for a r
unfolding Address.is_for address_of
for_kept a r r' k = rw (in_use_kept r r' k, k.address)

-- two addresses that are in use in one record are one
one_address : (t : Table) (a b : List ℕ) → is_known a t ≡ true → is_known b t ≡ true → place_for a t ≡ place_for b t → a ≡ b
unfolding is_known place_for Address.is_for same_address
one_address t a b k l e = same_equal a _ (found a k) ∙ rw e (sym (same_equal b _ (found b l)))
  where
    found : (a : List ℕ) → is_known a t ≡ true → same a (address_of (get_or t.records (place_for a t) empty_record)) ≡ true
    found a k =
        and_right (is_in_use (get_or t.records (place_for a t) empty_record)) _
        (place_holds (Address.is_for a) t.records empty_record (ltb-true _ _ k))

-- an input that succeeds is read as far as its address
success_read : (known : Bool) (r : Record) (x : Input) → is_success (outcome_of (case_at known r x)) ≡ true → is_read x ≡ true
unfolding is_read rows_before reading_rows any refusals size_rows request_rows case_at is_bad_size
success_read known r x e =
    let t = none_refusing (case_at known r x) e in
    rw (t 2, t 3, t 5, t 6, t 7)

-- what is left of an address where an input was for it: as if it were alone
pub record Lived (a : List ℕ) (t : Table) (x : Input) (t' : Table) : Type 0 where
  pub exchange : answered x (case_in t x) ≡ answered x (case_at true (own_in a t) x)
  pub own : own_in a t' ≡ own_after (case_at true (own_in a t) x)
  pub part : part_in a t' ≡ part_afterwards (case_at true (own_in a t) x) (part_in a t)

-- and where an input was not for it: everything
pub record Left (a : List ℕ) (t t' : Table) : Type 0 where
  pub own : own_in a t' ≡ own_in a t
  pub part : part_in a t' ≡ part_in a t

module _ (t : Table) (x : Input) (f : Fine t) where
  -- what the input is tried against
  abbrev c : Case
  c = case_in t x

  -- the address that it names
  abbrev u : List ℕ
  u = uri x

  -- an input that succeeds is for an address of the table
  success_known : is_success (outcome_of c) ≡ true → is_known u t ≡ true
  unfolding case_at
  success_known e = (grants c e).known

  -- which then stands at a place
  inside : is_known u t ≡ true → place_for u t < length t.records
  unfolding is_known
  inside k = ltb-true _ _ k

  -- and writes a whole part
  long : is_success (outcome_of c) ≡ true → is_known u t ≡ true → length (part_afterwards c (part_in u t)) ≡ 4096
  unfolding part_afterwards case_at record_at
  long e k =
      rw e (part_after_length (success_of c) c.own (body c.text c.head) (part_in u t)
      (whole_slots c.own (every_at is_whole t.records (place_for u t) empty_record (held_whole t.records f.held) (inside k))))

  -- what holds of the table that a success writes, and of the one that was there, holds of the table after the input
  either : (P : Table → Type 0) → (is_success (outcome_of c) ≡ true → P (table_after t c)) → (is_success (outcome_of c) ≡ false → P t) → P (table_in t x)
  either P written kept = go (is_success (outcome_of c)) written kept
    where
      go : (b : Bool) → (b ≡ true → P (table_after t c)) → (b ≡ false → P t) → P (pick b (table_after t c) t)
      go true written kept = written refl
      go false written kept = kept refl

  -- the record that a success writes is for the addresses that the old one was for
  alike : (a : List ℕ) → is_success (outcome_of c) ≡ true → Address.is_for a (own_after c) ≡ Address.is_for a (own_in u t)
  unfolding own_after case_at
  alike a e = rw e (for_kept a _ _ (keeps (success_of c) (own_in u t)))

  -- the place of an address stays
  place_same : (a : List ℕ) → place_for a (table_in t x) ≡ place_for a t
  unfolding table_after case_at
  place_same a = either (λ z. place_for a z ≡ place_for a t) (λ e. place_stays t (place_for u t) _ _ a (alike a e)) (λ e. refl)

  -- an address that is there stays there
  pub known_same : (a : List ℕ) → is_known a (table_in t x) ≡ is_known a t
  unfolding table_after case_at
  known_same a = either (λ z. is_known a z ≡ is_known a t) (λ e. known_stays t (place_for u t) _ _ a (alike a e)) (λ e. refl)

  -- what stands at the place of an address is what the address has
  at_place : (a : List ℕ) (r : Record) (bs : List ℕ) → record_at (table_in t x) (place_for a t) ≡ r → part_of (place_for a t) (table_in t x).store ≡ bs
      → (own_in a (table_in t x) ≡ r) × (part_in a (table_in t x) ≡ bs)
  at_place a r bs own part = (
    ap (record_at (table_in t x)) (place_same a) ∙ own,
    ap (λ (i : ℕ). part_of i (table_in t x).store) (place_same a) ∙ part,
  )

  -- the address of the input has what it would have alone
  here : is_known u t ≡ true → Lived u t x (table_in t x)
  unfolding table_after own_after part_afterwards case_at
  here k =
      record {
        exchange = rw k;
        own = (at_place u _ _ own part).0 ∙ rw k;
        part = (at_place u _ _ own part).1 ∙ rw k;
      }
    where
      own : record_at (table_in t x) (place_for u t) ≡ own_after c
      own =
          either (λ z. record_at z (place_for u t) ≡ own_after c)
          (λ e. record_there t (place_for u t) _ _ f.size (inside k) (long e k)) (λ e. rw e)

      part : part_of (place_for u t) (table_in t x).store ≡ part_afterwards c (part_in u t)
      part =
          either (λ z. part_of (place_for u t) z.store ≡ part_afterwards c (part_in u t))
          (λ e. part_there t (place_for u t) _ _ f.size (inside k) (long e k)) (λ e. rw e)

  -- an input for an address
  pub lived : (a : List ℕ) → is_known a t ≡ true → is_for a x ≡ true → Lived a t x (table_in t x)
  unfolding is_for same_address
  lived a k e =
      subst (λ (b : List ℕ). is_known b t ≡ true → Lived b t x (table_in t x)) (same_equal _ _ (and_right (is_read x) _ e)) here k

  -- and any other
  pub left : (a : List ℕ) → is_known a t ≡ true → is_for a x ≡ false → Left a t (table_in t x)
  unfolding table_after case_at is_for same_address
  left a k e = record { own = (at_place a _ _ own part).0; part = (at_place a _ _ own part).1 }
    where
      apart : is_success (outcome_of c) ≡ true → place_for a t ≡ place_for u t → ⊥
      apart s p =
          let same-one : a ≡ u = one_address t a u k (success_known s) p in
          true≢false (sym (and_both _ _ (success_read _ _ x s) (rw same-one (same_self u))) ∙ e)

      own : record_at (table_in t x) (place_for a t) ≡ own_in a t
      own =
          either (λ z. record_at z (place_for a t) ≡ own_in a t) (λ s. record_other t (place_for u t) _ _ (place_for a t) (apart s)) (λ s. refl)

      part : part_of (place_for a t) (table_in t x).store ≡ part_in a t
      part =
          either (λ z. part_of (place_for a t) z.store ≡ part_in a t)
          (λ s. part_other t (place_for u t) _ _ f.size (inside (success_known s)) (long s (success_known s)) (place_for a t) (apart s)) (λ s. refl)
