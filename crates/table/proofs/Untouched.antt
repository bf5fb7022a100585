-- A call without success leaves the table as it is, and of the buffer a call writes only the front that its message takes.
use mathlib.Core.Path.{◌≡◌, refl}
use mathlib.Core.Bool.{Bool, true, false}
use mathlib.Core.List.{List, [], ◌++◌}
use Prim.Native.Nat.{ℕ}
use lib.ListN.{length, drop}
use borrow.Author.Tests.{ne_eqb}
use Rattle.laws.specs.Choose.{pick}
use Rattle.laws.specs.First.{first_of}
use Rattle.response.specs.Outcomes.{is_silent, is_success}
use Rattle.publish.specs.Refusals.{Case, outcome_of}
use Rattle.publish.specs.Step.{answer_of}
use Rattle.response.specs.Message.{message}
use Rattle.table.specs.Table.{Table, bad_size}
use Rattle.table.specs.Open.{opened, open_refusals, emptied}
use Rattle.table.specs.Add.{Entry, added, add_refusals}
use Rattle.table.specs.Handle.{Input, Done, done, done_with, case_of}

-- the message of an input and of the outcome that it came to
abbrev pub due : Input → Done → List ℕ
due x d = message x.request x.number d.handled.outcome

-- what a handled request leaves as it was, of the table and of the answer buffer
pub record Leaves (t : Table) (buffer : List ℕ) (x : Input) (d : Done) : Type 0 where
  -- without a success the table stays as it is
  pub table_stays : is_success d.handled.outcome ≡ false → d.table ≡ t
  -- without a message the buffer stays as it is, and the length given is 0
  pub buffer_stays : is_silent d.handled.outcome ≡ true → (d.buffer ≡ buffer) × (d.handled.length ≡ 0)
  -- the message stands in front of what stood past its length, and the length given is its length
  pub message_in_front : is_silent d.handled.outcome ≡ false
      → (d.buffer ≡ due x d ++ drop (length (due x d)) buffer) × (d.handled.length ≡ length (due x d))

-- a silent outcome has no message
silent_answer : (c : Case) (number : ℕ) → is_silent (outcome_of c) ≡ true → answer_of c number ≡ []
unfolding answer_of
silent_answer c number e = rw e

-- any other outcome has its message
due_answer : (c : Case) (number : ℕ) → is_silent (outcome_of c) ≡ false → answer_of c number ≡ message c.text number (outcome_of c)
unfolding answer_of
due_answer c number e = rw e

-- every call leaves what it must
pub leaves : (t : Table) (buffer : List ℕ) (x : Input) → Leaves t buffer x (done t buffer x)
unfolding done done_with case_of
leaves t buffer x =
    record {
      table_stays = λ e. rw e;
      buffer_stays = λ e. (rw (silent_answer c x.number e), rw (silent_answer c x.number e));
      message_in_front = λ e. (rw (due_answer c x.number e), rw (due_answer c x.number e));
    }
  where
    c : Case
    c = case_of t buffer x

-- an `open` that is refused leaves the table as it is
pub open_leaves : (t : Table) → ((opened t).result ≡ 0 → ⊥) → (opened t).table ≡ t
unfolding opened open_refusals first_of
open_leaves t h = go (bad_size t) refl
  where
    go : (b : Bool) → bad_size t ≡ b → pick (bad_size t) t (emptied t) ≡ t
    go true e = rw e
    go false e = absurd (h (rw e))

-- an `add` that is refused leaves the table as it is
pub add_leaves : (e : Entry) (t : Table) → ((added e t).result ≡ 0 → ⊥) → (added e t).table ≡ t
unfolding added
add_leaves e t h = rw (ne_eqb (first_of (add_refusals e t) 0) 0 h)
