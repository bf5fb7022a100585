-- What worked examples are stated with: a table where one address was added, and what comes back from it.
use Rattle.std.specs.Prelude.{ℕ, List, [], ◌∷◌, map}
use Prim.Native.String.{String}
use Rattle.laws.specs.Bytes.{bytes}
use Rattle.table.specs.Table.{Table}
use Rattle.table.specs.Add.{Entry}
use Rattle.table.specs.Handle.{Input, done}
use Rattle.table.specs.Run.{Given, begun, ran}
use Rattle.response.specs.declared.Outcome.{Outcome}
use Rattle.listing.specs.Lent.{zero_table, lent_buffer, sending}

-- an address added with start 0, and so many tags spent
unfoldable pub entry : String → ℕ → Entry
entry address spent = record { address = bytes address; start = 0; spent = spent }

-- a request at a clock, with To number 1
unfoldable pub at : ℕ → List ℕ → Input
at clock request = record { clock = clock; number = 1; request = request }

-- two records, one of them for ann, who has spent so many tags
unfoldable pub ann_table : ℕ → Table
ann_table spent = begun (zero_table 2) (entry "ann" spent ∷ [])

-- what comes back for an input from a table
unfoldable pub back : Table → Input → Outcome
back t x = (done t lent_buffer x).handled.outcome

-- a run with one address
unfoldable pub run_of : String → List Input → Given
run_of address xs = ran (zero_table 1) (entry address 0 ∷ []) (map sending xs)

-- what comes back for each of a list of inputs
unfoldable pub backs : String → List Input → List Outcome
backs address xs = map (λ x. x.answer.handled.outcome) (run_of address xs).exchanges

-- the messages
unfoldable pub messages : String → List Input → List (List ℕ)
messages address xs = map (λ x. x.answer.message) (run_of address xs).exchanges
