-- The table as covered functions hold it: the looks at the first sixteen records, how many were lent, the one record that a call is
-- for, and the store. What is settled there is what `opened`, `added` and `done` settle of the lent table, once the record kept is put
-- at its index (proofs/LookedLaws).
-- Rules 5.1 to 5.3, 7.1 to 7.5, 7.20 of docs/RULES.md.
use Rattle.std.specs.Prelude.{ℕ, zero, suc, Bool, not, List, [], ◌∷◌, ◌++◌, eqb, ltb, length, take, drop, set, replicate, Option, Some, None, Result, Ok, Err}
use Rattle.laws.specs.Choose.{pick}
use Rattle.laws.specs.First.{Row, row, first_of}
use Rattle.laws.specs.Lists.{part, place_of}
use Rattle.request.specs.Head.{head_of, uri_of}
use Rattle.record.specs.Address.{is_address}
use Rattle.record.specs.Places.{empty_record, smaller}
use Rattle.success.specs.Store.{part_of, with_part}
use Rattle.success.specs.After.{record_after}
use Rattle.record.specs.declared.Record.{Record}
use Rattle.lent.specs.Look.{looks_sound, is_look_for}
use Rattle.lent.specs.declared.look.Look.{Look}
use Rattle.response.specs.Outcomes.{is_success}
use Rattle.publish.specs.Refusals.{Case, is_bad_size, size_rows, outcome_of}
use Rattle.publish.specs.Step.{answer_of, success_of, part_afterwards}
use Rattle.response.specs.declared.Outcome.{Outcome}
use Rattle.response.specs.declared.Outcome.TheVariants.{Silent}
use Rattle.response.specs.Faults.{number_of}
use Rattle.response.specs.declared.fault.Fault.{Fault}
use Rattle.table.specs.Add.{Entry, fresh_record}
use Rattle.table.specs.declared.looks.Sought.{Sought}
use Rattle.table.specs.declared.handling.Begun.{Begun}
use Rattle.table.specs.declared.handling.Settled.{Settled}
use Rattle.table.specs.declared.Handled.{Handled}
use Rattle.table.specs.declared.Kept.{Kept}

-- opening: its result
unfoldable pub open_result : ℕ → List ℕ → ℕ
open_result n store = pick (is_bad_size n (length store)) 2 0

-- and the store after it
unfoldable pub open_store : ℕ → List ℕ → List ℕ
open_store n store = pick (is_bad_size n (length store)) store (replicate (length store) 0)

-- where the i-th empty record is put: past the end where opening is refused
unfoldable pub empty_at : ℕ → ℕ → ℕ → ℕ
empty_at result n i = pick (eqb result 0) i n

-- the records with the empty one put at the first k of these places
unfoldable pub emptied_to : ℕ → ℕ → ℕ → List Record → List Record
emptied_to result n zero rs = rs
emptied_to result n (suc k) rs = set (emptied_to result n k rs) (empty_at result n k) empty_record

-- what is found of an address among the n lent records, of which at most sixteen are looked at
unfoldable pub sought_in : List ℕ → List Look → ℕ → Sought
sought_in a ls n =
    let m = smaller n 16 in record { sound = looks_sound (take m ls); place = place_of (is_look_for a) (take m ls) }

unfoldable pub entry_of : List ℕ → ℕ → ℕ → Entry
entry_of address start spent = record { address = address; start = start; spent = spent }

-- adding: its refusals, by the looks and the length of the store
unfoldable pub add_rows : List Look → ℕ → ℕ → List ℕ → List (Row ℕ)
add_rows ls n store address =
    row (is_bad_size n store) 2 ∷
    row (not (looks_sound (take n ls))) 5 ∷
    row (not (is_address address)) 7 ∷
    row (ltb (place_of (is_look_for address) (take n ls)) n) 8 ∷
    row (not (ltb (place_of (λ l. not l.used) (take n ls)) n)) 9 ∷
    []

-- what adding comes to: the result, the record that is kept, and its place
pub record AddOut : Type 0 where
  pub result : ℕ
  pub index : ℕ
  pub kept : Record

-- the result, the record that is kept, and where: past the end where adding is refused
unfoldable pub add_out : List Look → ℕ → List ℕ → List ℕ → ℕ → ℕ → AddOut
add_out ls n store address start spent =
    let result = first_of (add_rows ls n (length store) address) 0 in
    let fresh = fresh_record (entry_of address start spent) in
    record {
      result = result;
      index = pick (eqb result 0) (place_of (λ l. not l.used) (take n ls)) n;
      kept = pick (eqb result 0) fresh empty_record;
    }

-- the same of what the code gives: where it refuses, nothing is kept, which is the empty record past the end
abbrev pub out_of : ℕ → Result Kept Fault → AddOut
out_of n (Ok k) = record { result = 0; index = k.place; kept = k.record }
out_of n (Err f) = record { result = number_of f; index = n; kept = empty_record }

-- the store after it
unfoldable pub add_store : List Look → ℕ → List ℕ → List ℕ → List ℕ
add_store ls n store address =
    let zeroed = with_part (place_of (λ l. not l.used) (take n ls)) (replicate 4096 0) store in
    pick (eqb (first_of (add_rows ls n (length store) address) 0) 0) zeroed store

-- what is known of a request before its record is taken out: no more is read than a request may have
unfoldable pub begun_of : List Look → ℕ → List ℕ → Begun
begun_of ls n s =
    let t = part s 0 4096 in
    let h = head_of t in
    let k = sought_in (uri_of t h) ls n in
    record { sound = k.sound; place = k.place; head = h }

-- what a request is tried against, with its record
unfoldable pub case_with : Begun → Record → ℕ → ℕ → ℕ → ℕ → List ℕ → Case
case_with b own n store buffer clock s =
    record {
      buffer = buffer;
      records = n;
      store = store;
      sound = b.sound;
      known = ltb b.place n;
      own = own;
      clock = clock;
      text = s;
      head = b.head;
    }

-- the refusals tried before what the request says: the sizes of what is lent and the clock, then the soundness of every record
unfoldable pub early_rows : Bool → ℕ → ℕ → ℕ → ℕ → ℕ → List (Row Outcome)
early_rows sound n store request buffer clock = size_rows buffer n store request clock ++ (row (not sound) (Silent 5) ∷ [])

-- what handling comes to: outcome and length, the record that is kept, and its place
pub record HandleOut : Type 0 where
  pub handled : Handled
  pub index : ℕ
  pub kept : Record

-- handling: outcome and length, the record that is kept, and where: past the end where the request is refused
unfoldable pub handle_out : Begun → Record → ℕ → List ℕ → ℕ → ℕ → List ℕ → List ℕ → HandleOut
handle_out b own n store clock number s answer =
    let c = case_with b own n (length store) (length answer) clock s in
    let after = record_after (success_of c) own in
    record {
      handled = record { outcome = outcome_of c; length = length (answer_of c number) };
      index = pick (is_success (outcome_of c)) b.place n;
      kept = pick (is_success (outcome_of c)) after own;
    }

-- the same of what the code gives: where nothing is kept, that is the record as it was, past the end
abbrev pub kept_out : Handled → ℕ → Record → Option Kept → HandleOut
kept_out handled n own (Some k) = record { handled = handled; index = k.place; kept = k.record }
kept_out handled n own None = record { handled = handled; index = n; kept = own }

abbrev pub settled_of : ℕ → Record → Settled → HandleOut
settled_of n own s = kept_out s.handled n own s.kept

-- the store after it
unfoldable pub handle_store : Begun → Record → ℕ → List ℕ → ℕ → ℕ → List ℕ → List ℕ → List ℕ
handle_store b own n store clock number s answer =
    let c = case_with b own n (length store) (length answer) clock s in
    let written = with_part b.place (part_afterwards c (part_of b.place store)) store in
    pick (is_success (outcome_of c)) written store

-- the answer buffer after it
unfoldable pub handle_answer : Begun → Record → ℕ → List ℕ → ℕ → ℕ → List ℕ → List ℕ → List ℕ
handle_answer b own n store clock number s answer =
    let m = answer_of (case_with b own n (length store) (length answer) clock s) number in m ++ drop (length m) answer
