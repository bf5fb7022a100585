-- Which inputs are for an address, and what was exchanged there: told by the inputs, by no table.
use Rattle.std.specs.Prelude.{ℕ, ◌≡◌, Bool, ◌&&◌, not, List, ◌∷◌, ◌++◌, length}
use Rattle.laws.specs.First.{Row}
use Rattle.laws.specs.Lists.{any, those}
use Rattle.request.specs.Head.{head_of, uri_of}
use Rattle.record.specs.Address.{same_address}
use Rattle.publish.specs.Refusals.{size_rows, reading_rows}
use Rattle.response.specs.declared.Outcome.{Outcome}
use Rattle.table.specs.Handle.{Input}
use Rattle.table.specs.Run.{Exchange}
use Rattle.runs.specs.Run.{Run, exchanges, inputs}
use Rattle.runs.specs.Added.{added_in}

-- the refusals before 404, where what is lent has accepted sizes and every record is sound: 3, 4, 6, 405 and the first 400 are left
unfoldable pub rows_before : Input → List (Row Outcome)
rows_before x = let s = x.request in size_rows 4608 1 4096 (length s) x.clock ++ reading_rows s (head_of s)

-- an input is read as far as its address: none of these applies
unfoldable pub is_read : Input → Bool
is_read x = not (any (λ w. w.applies) (rows_before x))

-- an input is for an address: it is read that far, and its Request-URI is that address
unfoldable pub is_for : List ℕ → Input → Bool
is_for a x = is_read x && same_address (uri_of x.request (head_of x.request)) a

-- an input is for no address that was added
unfoldable pub is_for_none : Run → Input → Bool
is_for_none r x = not (any (λ e. is_for e.address x) (added_in r))

-- the inputs for an address, in their order
unfoldable pub inputs_for : List ℕ → Run → List Input
inputs_for a r = those (is_for a) (inputs r)

-- the history of an address: each input for it with its answer, in their order
unfoldable pub history_of : List ℕ → Run → List Exchange
history_of a r = those (λ x. is_for a x.input) (exchanges r)

-- a moment of a history: what was before, the exchange then, and what came later
pub record Moment (history : List Exchange) : Type 0 where
  pub before : List Exchange
  pub now : Exchange
  pub later : List Exchange
  pub is : history ≡ before ++ (now ∷ later)
