-- What the code of a success asks for: what is asked is the success, the body has its length, and the part lies in the store.
use mathlib.Core.Path.{◌≡◌, sym, ◌∙◌, ap}
use mathlib.Core.Bool.{true}
use mathlib.Core.List.{List}
use Prim.Native.Nat.{ℕ, ◌+◌, ◌*◌, ◌<◌, ◌≤◌}
use native.Mathlib.Omega.{arith}
use lib.ListN.{length}
use borrow.Author.Tests.{ltb-true}
use Rattle.laws.proofs.Parts.{part_size}
use Rattle.request.specs.Fields.{there, body_length, body}
use Rattle.request.specs.declared.Head.{Head}
use Rattle.request.proofs.FieldLaws.{body_there}
use Rattle.success.specs.After.{written_slot}
use Rattle.record.specs.declared.Record.{Record}
use Rattle.success.specs.declared.Success.{Success}
use Rattle.record.proofs.Held.{Held, held_slots, held_spent}
use Rattle.success.proofs.StoreLaws.{freed_at_length}
use Rattle.response.specs.Outcomes.{is_success}
use Rattle.publish.specs.Refusals.{outcome_of}
use Rattle.publish.specs.Asked.{asked_of}
use Rattle.publish.specs.Step.{success_for, success_of}
use Rattle.publish.specs.declared.Asked.{Asked}
use Rattle.table.specs.Looked.{case_with}
use Rattle.table.specs.declared.handling.Begun.{Begun}
use Rattle.table.proofs.OneRecord.{good_size, few_records}
use Rattle.table.proofs.GrantedLaws.{Grants, grants, slot_most, slot_there}

-- the success is what is asked
pub success_asked : (r : Record) (clock : ℕ) (s : List ℕ) (h : Head) {a : Asked} → a ≡ asked_of r clock s h
    → {x : Success} → x ≡ record { clock = clock; event = a.event; slot = a.slot; granted = a.granted; length = a.length }
    → x ≡ success_for r clock s h
unfolding asked_of success_for
success_asked r clock s h e d =
    d ∙ ap (λ (a : Asked). record { clock = clock; event = a.event; slot = a.slot; granted = a.granted; length = a.length }) e

-- the body is as long as it says
pub body_size : (s : List ℕ) (h : Head) → length (body s h) ≡ body_length s h
unfolding body there
body_size s h = part_size s h.rest (h.rest + body_length s h) ∙ omega (arith, body_there s h)

module _ (b : Begun) (own : Record) (n store buffer clock : ℕ) (s : List ℕ)
    (e : is_success (outcome_of (case_with b own n store buffer clock s)) ≡ true) where
  -- no refusal applied
  granted_there : Grants (case_with b own n store buffer clock s)
  granted_there = grants (case_with b own n store buffer clock s) e

  -- the body fits a slot
  pub body_fits_there : body_length s b.head ≤ 512
  unfolding case_with
  body_fits_there = granted_there.body_fits

  -- its part lies in the store
  part_there : (4096 * b.place + 4096 ≤ store) × (b.place < 16)
  unfolding case_with
  part_there =
      let known : b.place < n = ltb-true b.place n granted_there.known in
      let few : n ≤ 16 = few_records n store granted_there.good_sizes in
      let size : store ≡ 4096 * n = good_size n store granted_there.good_sizes in
      (omega arith, omega arith)

  -- there is a tag left to spend
  spent_there : Held own → own.spent < 4294967295
  unfolding case_with
  spent_there k = let left : (own.spent ≡ 4294967295 → ⊥) = granted_there.unspent in omega (arith, held_spent own k)

  module _ {x : Success} (is : x ≡ success_for own clock s b.head) where
    -- it is the success of the request
    success_is : x ≡ success_of (case_with b own n store buffer clock s)
    unfolding success_of case_with
    success_is = is

    -- its end fits 64 bits
    end_there : x.granted < 4294967296 → x.clock + x.granted < 18446744073709551616
    unfolding success_for case_with
    end_there k = let same : x.clock ≡ clock = ap (λ (y : Success). y.clock) is in omega (arith, granted_there.in_time)

    -- the slot matched, or 8
    slot_fits : x.slot ≤ 8
    slot_fits = rw success_is (slot_most (case_with b own n store buffer clock s) granted_there)

    -- the slot that is written is there
    written_there : Held own → 0 < x.granted → written_slot x own < 8
    unfolding case_with
    written_there k =
        rw success_is (slot_there (case_with b own n store buffer clock s) granted_there (freed_at_length clock own ∙ held_slots own k))

    -- the body given has the length that the success has
    body_there_size : {text : List ℕ} → text ≡ body s b.head → (length text ≡ x.length) × (x.length ≤ 512)
    unfolding success_for
    body_there_size k =
        let long : x.length ≡ body_length s b.head = ap (λ (y : Success). y.length) is in
        (ap length k ∙ body_size s b.head ∙ sym long, omega (arith, body_fits_there))

    -- all that the code of a success asks for
    pub success_asks : Held own → x.granted < 4294967296 → {text : List ℕ} → text ≡ body s b.head
        → (own.spent < 4294967295) × (x.clock + x.granted < 18446744073709551616) × (x.slot ≤ 8) × (4096 * b.place + 4096 ≤ store)
        × (b.place < 16) × (length text ≡ x.length) × (x.length ≤ 512) × (0 < x.length → 0 < x.granted → written_slot x own < 8)
    success_asks k t d = (
      spent_there k,
      end_there t,
      slot_fits,
      part_there.0,
      part_there.1,
      (body_there_size d).0,
      (body_there_size d).1,
      λ _. written_there k,
    )
