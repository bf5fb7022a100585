-- One address by itself: no table and no other address. And what comes back for an input that is for no address.
use Rattle.std.specs.Prelude.{ℕ, Bool, true, false, List, [], ◌∷◌, length, replicate}
use Rattle.request.specs.Head.{head_of}
use Rattle.record.specs.Places.{empty_record}
use Rattle.success.specs.Store.{part_of}
use Rattle.record.specs.declared.Record.{Record}
use Rattle.publish.specs.Refusals.{Case, outcome_of}
use Rattle.publish.specs.Step.{answer_of, own_after, part_afterwards}
use Rattle.table.specs.Table.{place_for, record_at}
use Rattle.table.specs.Add.{Entry, fresh_record}
use Rattle.table.specs.Handle.{Input}
use Rattle.table.specs.Run.{Exchange}
use Rattle.runs.specs.Run.{Run, table_at_end}
use Rattle.runs.specs.Reach.{history_of}

-- what an input is tried against where sizes are accepted and every record is sound: whether its address is there, and its record
unfoldable pub case_at : Bool → Record → Input → Case
case_at known own x =
    let s = x.request in
    record {
      buffer = 4608;
      records = 1;
      store = 4096;
      sound = true;
      known = known;
      own = own;
      clock = x.clock;
      text = s;
      head = head_of s;
    }

-- an input with its answer: the outcome, and the message that is due with its length
unfoldable pub answered : Input → Case → Exchange
answered x c =
    let m = answer_of c x.number in
    record { input = x; answer = record { handled = record { outcome = outcome_of c; length = length m }; message = m } }

-- the life of an address: each of its inputs with its answer, then its record and its 4,096 store bytes
pub record Life : Type 0 where
  pub exchanges : List Exchange
  pub own : Record
  pub part : List ℕ

-- a life with one exchange more in front
unfoldable pub beginning : Exchange → Life → Life
beginning x l = record { exchanges = x ∷ l.exchanges; own = l.own; part = l.part }

-- a life that goes on from a record and a part: each input finds the record that the one before left
unfoldable pub alone_from : Record → List ℕ → List Input → Life
alone_from r bs [] = record { exchanges = []; own = r; part = bs }
alone_from r bs (x ∷ xs) =
    let c = case_at true r x in
    beginning (answered x c) (alone_from (own_after c) (part_afterwards c bs) xs)

-- the life of an address by itself, from how it was added and its own inputs
unfoldable pub alone : Entry → List Input → Life
alone e xs = alone_from (fresh_record e) (replicate 4096 0) xs

-- what an address by itself answers next, after some inputs
unfoldable pub next : Entry → List Input → Input → Exchange
next e earlier x = answered x (case_at true (alone e earlier).own x)

-- what a run shows of an address: its history, and its record and its part in the table at the end
unfoldable pub life_of : List ℕ → Run → Life
life_of a r =
    let t = table_at_end r in
    let i = place_for a t in
    record { exchanges = history_of a r; own = record_at t i; part = part_of i t.store }

-- an input that is for no address, with its answer: the first refusal before 404 that applies, otherwise 404
unfoldable pub elsewhere : Input → Exchange
elsewhere x = answered x (case_at false empty_record x)
