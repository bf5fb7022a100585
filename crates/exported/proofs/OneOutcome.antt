-- No two outcomes satisfy a contract in numbers: at the same values lent, what two calls leave is equal.
use mathlib.Core.Path.{◌≡◌, sym, ◌∙◌}
use mathlib.Core.List.{List}
use Prim.Native.Nat.{ℕ}
use Rattle.record.specs.declared.Record.{Record}
use Rattle.exported.specs.Ensured.{Replied, RepliedAs, ShownAs}
use Rattle.exported.specs.declared.numbers.HandledNumbers.{HandledNumbers}
use Rattle.exported.specs.declared.numbers.StateNumbers.{StateNumbers}

-- `windgusset_handle` leaves one outcome: its numbers, the records, the store and the answer buffer
pub handle_once : (rs : List Record) (ss : List ℕ) (clock number : ℕ) (request answer : List ℕ)
    {r r' : HandledNumbers} {a a' : List Record} {b b' c c' : List ℕ}
    → RepliedAs rs ss clock number request answer r a b c → RepliedAs rs ss clock number request answer r' a' b' c'
    → ◌≡◌ {A = Replied}
    (record { numbers = r; table = record { records = a; store = b }; buffer = c })
    (record { numbers = r'; table = record { records = a'; store = b' }; buffer = c' })
unfolding RepliedAs
handle_once rs ss clock number request answer e f = e ∙ sym f

-- `windgusset_read` gives one state
pub read_once : (rs : List Record) (ss address name : List ℕ) (clock : ℕ) {r r' : StateNumbers}
    → ShownAs rs ss address name clock r → ShownAs rs ss address name clock r' → r ≡ r'
unfolding ShownAs
read_once rs ss address name clock e f = e ∙ sym f
