-- A run: a table is lent to `open`, entries are given to `add`, then inputs are sent to `handle`, each with an answer buffer of its
-- own. What it gives: each input with its answer, and the table at the end.
-- Rule 5.5 of docs/RULES.md.
use Rattle.std.specs.Prelude.{ℕ, List, [], ◌∷◌, take}
use Rattle.table.specs.Table.{Table}
use Rattle.table.specs.Open.{opened}
use Rattle.table.specs.Add.{Entry, added}
use Rattle.table.specs.Handle.{Input, Done, done}
use Rattle.table.specs.declared.Handled.{Handled}

-- one sending: an input (clock, To number, request bytes), and the answer buffer that is lent for it
pub record Sending : Type 0 where
  pub input : Input
  pub buffer : List ℕ

-- an answer: outcome and length, and the message's bytes
pub record Answer : Type 0 where
  pub handled : Handled
  pub message : List ℕ

-- an input, and the answer to it
pub record Exchange : Type 0 where
  pub input : Input
  pub answer : Answer

-- each input with its answer, in their order, and the table at the end
pub record Given : Type 0 where
  pub exchanges : List Exchange
  pub table : Table

-- entries given to `add`, one after the other; refused ones are allowed
unfoldable pub add_all : List Entry → Table → Table
add_all [] t = t
add_all (e ∷ es) t = add_all es (added e t).table

-- the answer in what a call settled
unfoldable pub answer_in : Done → Answer
answer_in d = record { handled = d.handled; message = take d.handled.length d.buffer }

-- one exchange more in front
unfoldable pub in_front_of : Exchange → Given → Given
in_front_of x g = record { exchanges = x ∷ g.exchanges; table = g.table }

-- sendings, one after the other: `handle` is given the table that the one before left
unfoldable pub send_each : List Sending → Table → Given
send_each [] t = record { exchanges = []; table = t }
send_each (x ∷ xs) t =
    let d = done t x.buffer x.input in
    in_front_of (record { input = x.input; answer = answer_in d }) (send_each xs d.table)

-- the table with which the sending begins: what was lent, opened, and the entries added
unfoldable pub begun : Table → List Entry → Table
begun lent es = add_all es (opened lent).table

-- a run
unfoldable pub ran : Table → List Entry → List Sending → Given
ran lent es xs = send_each xs (begun lent es)
