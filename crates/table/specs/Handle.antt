-- Handling one request.
-- Rules 1.1, 7.21, 7.24, 8.8, 9.7 of docs/RULES.md.
use Rattle.std.specs.Prelude.{ℕ, List, ◌++◌, length, drop}
use Rattle.laws.specs.Choose.{pick}
use Rattle.request.specs.Head.{head_of, uri_of}
use Rattle.record.specs.Sound.{all_sound}
use Rattle.success.specs.Store.{part_of}
use Rattle.response.specs.Outcomes.{is_success}
use Rattle.publish.specs.Refusals.{Case, outcome_of}
use Rattle.publish.specs.Step.{answer_of, own_after, part_afterwards}
use Rattle.table.specs.Table.{Table, place_for, is_known, record_at, with_record}
use Rattle.table.specs.declared.Handled.{Handled}

-- one input: its clock, the 32-bit number for To that the caller supplies, and the request's bytes
pub record Input : Type 0 where
  pub clock : ℕ
  pub number : ℕ
  pub request : List ℕ

-- what `handle` settles: its result, the table after it, and the answer buffer after it
pub record Done : Type 0 where
  pub handled : Handled
  pub table : Table
  pub buffer : List ℕ

-- what a request is tried against, with the table and the answer buffer that are lent
unfoldable pub case_of : Table → List ℕ → Input → Case
case_of t buffer x =
    let s = x.request in
    let h = head_of s in
    let uri = uri_of s h in
    record {
      buffer = length buffer;
      records = length t.records;
      store = length t.store;
      sound = all_sound t.records;
      known = is_known uri t;
      own = record_at t (place_for uri t);
      clock = x.clock;
      text = s;
      head = h;
    }

-- the table after a success: the address's own record and part, and no other
unfoldable pub table_after : Table → Case → Table
table_after t c =
    let i = place_for (uri_of c.text c.head) t in
    with_record t i (own_after c) (part_afterwards c (part_of i t.store))

-- `handle` at a case: the message in front of the buffer and the bytes past it untouched; no success, no change of the table
unfoldable pub done_with : Table → List ℕ → ℕ → Case → Done
done_with t buffer number c =
    let m = answer_of c number in
    let after = table_after t c in
    record {
      handled = record { outcome = outcome_of c; length = length m };
      table = pick (is_success (outcome_of c)) after t;
      buffer = m ++ drop (length m) buffer;
    }

-- `handle`
unfoldable pub done : Table → List ℕ → Input → Done
done t buffer x = done_with t buffer x.number (case_of t buffer x)
