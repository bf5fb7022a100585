-- Sending to a table of a run: what comes back and the table after it follow from the inputs and that table, whatever the answer
-- buffers held.
use mathlib.Core.Path.{◌≡◌, refl, ◌∙◌, ap, ap₂, subst}
use mathlib.Core.Bool.{true, false}
use mathlib.Core.List.{List, [], ◌∷◌, map}
use Prim.Native.Nat.{ℕ}
use lib.Dec.{ltb}
use lib.ListN.{length, replicate}
use lib.Seq.{take_at}
use borrow.Author.Tests.{le-ltb, leb-true}
use Rattle.laws.specs.Choose.{pick}
use Rattle.laws.specs.First.{first_of}
use Rattle.laws.specs.Lists.{every}
use Rattle.laws.proofs.Tests.{every_head, every_tail}
use Rattle.request.specs.Head.{head_of, uri_of}
use Rattle.success.specs.Store.{part_of}
use Rattle.record.specs.declared.Record.{Record}
use Rattle.response.specs.Outcomes.{is_success}
use Rattle.publish.specs.Refusals.{Case, is_bad_size, refusals, size_rows, outcome_of}
use Rattle.publish.specs.Step.{answer_of, success_of, own_after, part_afterwards}
use Rattle.table.specs.Table.{Table, bad_size, place_for, is_known, record_at}
use Rattle.table.specs.Handle.{Input, done, done_with, case_of, table_after}
use Rattle.table.specs.Run.{Sending, Exchange, Given, answer_in, in_front_of, send_each}
use Rattle.runs.specs.Run.{has_room}
use Rattle.runs.specs.Alone.{case_at, answered}
use Rattle.runs.proofs.Fine.{Fine, fine_handled}

-- the Request-URI of an input
abbrev pub uri : Input → List ℕ
uri x = uri_of x.request (head_of x.request)

-- the record of an address in a table
abbrev pub own_in : List ℕ → Table → Record
own_in a t = record_at t (place_for a t)

-- and its part of the store
abbrev pub part_in : List ℕ → Table → List ℕ
part_in a t = part_of (place_for a t) t.store

-- what an input is tried against in a table of a run
abbrev pub case_in : Table → Input → Case
case_in t x = case_at (is_known (uri x) t) (own_in (uri x) t) x

-- the table after an input
abbrev pub table_in : Table → Input → Table
table_in t x = pick (is_success (outcome_of (case_in t x))) (table_after t (case_in t x)) t

-- the exchange that a sending makes
abbrev pub exchange_of : Table → Sending → Exchange
exchange_of t x = record { input = x.input; answer = answer_in (done t x.buffer x.input) }

-- a buffer that has room is not below 4,608 bytes
pub roomy : (x : Sending) → has_room x ≡ true → ltb (length x.buffer) 4608 ≡ false
unfolding has_room
roomy x room = le-ltb (length x.buffer) 4608 (leb-true 4608 (length x.buffer) room)

module _ (t : Table) (x : Sending) (f : Fine t) (room : has_room x ≡ true) where
  -- sizes and soundness have no part in what comes back
  outcome_in : outcome_of (case_of t x.buffer x.input) ≡ outcome_of (case_in t x.input)
  unfolding outcome_of case_of case_at refusals size_rows is_bad_size first_of bad_size
  outcome_in = rw (roomy x room, f.size, f.sound)

  -- the message that is due
  message_in : answer_of (case_of t x.buffer x.input) x.input.number ≡ answer_of (case_in t x.input) x.input.number
  unfolding answer_of case_of case_at
  message_in = rw outcome_in

  -- what comes back
  pub exchange_in : exchange_of t x ≡ answered x.input (case_in t x.input)
  unfolding answer_in done done_with answered
  exchange_in =
      ap (λ (m : List ℕ). record { input = x.input; answer = record { handled = (done t x.buffer x.input).handled; message = m } })
      (take_at _ _ _ refl)
      ∙ ap₂ (λ o (m : List ℕ). record { input = x.input; answer = record { handled = record { outcome = o; length = length m }; message = m } })
      outcome_in message_in

  -- and the table after it
  pub table_in_lem : (done t x.buffer x.input).table ≡ table_in t x.input
  unfolding done done_with table_after own_after part_afterwards success_of case_of case_at
  table_in_lem = rw outcome_in

-- the table after an input is one of a run again
pub fine_in : (t : Table) (x : Input) → Fine t → Fine (table_in t x)
unfolding has_room
fine_in t x f =
    subst Fine (table_in_lem t (record { input = x; buffer = replicate 4608 0 }) f refl) (fine_handled t (replicate 4608 0) x f)

-- inputs, one after the other, with no buffer
unfoldable pub send_in : List Input → Table → Given
send_in [] t = record { exchanges = []; table = t }
send_in (x ∷ xs) t = in_front_of (answered x (case_in t x)) (send_in xs (table_in t x))

-- what sendings give is what their inputs give
pub sent_in : (xs : List Sending) (t : Table) → Fine t → every has_room xs ≡ true → send_each xs t ≡ send_in (map (λ x. x.input) xs) t
unfolding send_each send_in
sent_in [] t f room = refl
sent_in (x ∷ xs) t f room =
    ap₂ (λ y z. in_front_of y (send_each xs z)) (exchange_in t x f (every_head has_room x xs room)) (table_in_lem t x f (every_head has_room x xs room))
    ∙ ap (in_front_of (answered x.input (case_in t x.input)))
    (sent_in xs (table_in t x.input) (fine_in t x.input f) (every_tail has_room x xs room))
