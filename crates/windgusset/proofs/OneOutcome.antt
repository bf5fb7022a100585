-- No two outcomes satisfy a contract: at the same values lent, what two calls leave is equal, and what they give back too. A contract that speaks of
-- the number of a result settles the result, since no two results have one number.
use mathlib.Core.Path.{◌≡◌, sym, ◌∙◌, ap}
use mathlib.Core.List.{List}
use Prim.Native.Nat.{ℕ}
use Rattle.std.specs.Prelude.{Result, ⊤}
use Rattle.record.specs.declared.Record.{Record}
use Rattle.response.specs.Faults.{told}
use Rattle.response.specs.declared.fault.Fault.{Fault}
use Rattle.response.proofs.ToldLaws.{told_once}
use Rattle.table.specs.Open.{After}
use Rattle.table.specs.Handle.{Done}
use Rattle.table.specs.Read.{Readout}
use Rattle.table.specs.declared.Handled.{Handled}
use Rattle.table.specs.declared.State.{State}
use Rattle.windgusset.specs.Ensured.{OpenedAs, AddedAs, HandledAs, StateAs, ReadAs}

-- two results with the records and the store that go with them
pub record SameAfter (r r' : ℕ) (rs rs' : List Record) (ss ss' : List ℕ) : Type 0 where
  pub result : r ≡ r'
  pub records : rs ≡ rs'
  pub store : ss ≡ ss'

same_after : {r r' : ℕ} {rs rs' : List Record} {ss ss' : List ℕ} {d : After}
    → ◌≡◌ {A = After} (record { result = r; table = record { records = rs; store = ss } }) d
    → ◌≡◌ {A = After} (record { result = r'; table = record { records = rs'; store = ss' } }) d
    → SameAfter r r' rs rs' ss ss'
same_after e f =
    let g = e ∙ sym f in
    record {
      result = ap (λ (x : After). x.result) g;
      records = ap (λ (x : After). x.table.records) g;
      store = ap (λ (x : After). x.table.store) g;
    }

-- `open` leaves one outcome
pub open_once : (rs : List Record) (ss : List ℕ) {r r' : ℕ} {a a' : List Record} {b b' : List ℕ}
    → OpenedAs rs ss r a b → OpenedAs rs ss r' a' b' → SameAfter r r' a a' b b'
unfolding OpenedAs
open_once rs ss e f = same_after e f

-- `add` leaves one outcome
pub add_once : (rs : List Record) (ss address : List ℕ) (start spent : ℕ) {r r' : ℕ} {a a' : List Record} {b b' : List ℕ}
    → AddedAs rs ss address start spent r a b → AddedAs rs ss address start spent r' a' b' → SameAfter r r' a a' b b'
unfolding AddedAs
add_once rs ss address start spent e f = same_after e f

-- two outcomes of handling
pub record SameDone (r r' : Handled) (rs rs' : List Record) (ss ss' ms ms' : List ℕ) : Type 0 where
  pub handled : r ≡ r'
  pub records : rs ≡ rs'
  pub store : ss ≡ ss'
  pub answer : ms ≡ ms'

-- `handle` leaves one outcome
pub handle_once : (rs : List Record) (ss : List ℕ) (clock number : ℕ) (request answer : List ℕ)
    {r r' : Handled} {a a' : List Record} {b b' c c' : List ℕ}
    → HandledAs rs ss clock number request answer r a b c → HandledAs rs ss clock number request answer r' a' b' c'
    → SameDone r r' a a' b b' c c'
unfolding HandledAs
handle_once rs ss clock number request answer e f =
    let g = e ∙ sym f in
    record {
      handled = ap (λ (x : Done). x.handled) g;
      records = ap (λ (x : Done). x.table.records) g;
      store = ap (λ (x : Done). x.table.store) g;
      answer = ap (λ (x : Done). x.buffer) g;
    }

-- `read_state` gives one state
pub state_once : (rs : List Record) (ss address name : List ℕ) (clock : ℕ) {s s' : State}
    → StateAs rs ss address name clock s → StateAs rs ss address name clock s' → s ≡ s'
unfolding StateAs
state_once rs ss address name clock e f = e ∙ sym f

-- two results with the bytes that are shown
pub record SameRead (r r' : ℕ) (bs bs' : List ℕ) : Type 0 where
  pub result : r ≡ r'
  pub shown : bs ≡ bs'

-- `read` leaves one outcome
pub read_once : (rs : List Record) (ss address name : List ℕ) (clock : ℕ) (default : List ℕ) {r r' : ℕ} {bs bs' : List ℕ}
    → ReadAs rs ss address name clock default r bs → ReadAs rs ss address name clock default r' bs' → SameRead r r' bs bs'
unfolding ReadAs
read_once rs ss address name clock default e f =
    let g = e ∙ sym f in record { result = ap (λ (x : Readout). x.result) g; shown = ap (λ (x : Readout). x.bytes) g }

-- two results as they are given back, with the records and the store that go with them
pub record SameGiven (r r' : Result ⊤ Fault) (rs rs' : List Record) (ss ss' : List ℕ) : Type 0 where
  pub result : r ≡ r'
  pub records : rs ≡ rs'
  pub store : ss ≡ ss'

same_given : {r r' : Result ⊤ Fault} {rs rs' : List Record} {ss ss' : List ℕ} → SameAfter (told r) (told r') rs rs' ss ss'
    → SameGiven r r' rs rs' ss ss'
same_given s = record { result = told_once s.result; records = s.records; store = s.store }

-- `open` gives and leaves one outcome
pub open_result_once : (rs : List Record) (ss : List ℕ) {r r' : Result ⊤ Fault} {a a' : List Record} {b b' : List ℕ}
    → OpenedAs rs ss (told r) a b → OpenedAs rs ss (told r') a' b' → SameGiven r r' a a' b b'
open_result_once rs ss e f = same_given (open_once rs ss e f)

-- `add` gives and leaves one outcome
pub add_result_once : (rs : List Record) (ss address : List ℕ) (start spent : ℕ) {r r' : Result ⊤ Fault} {a a' : List Record} {b b' : List ℕ}
    → AddedAs rs ss address start spent (told r) a b → AddedAs rs ss address start spent (told r') a' b' → SameGiven r r' a a' b b'
add_result_once rs ss address start spent e f = same_given (add_once rs ss address start spent e f)

-- two results as they are given back, with the bytes that are shown
pub record SameShown (r r' : Result ⊤ Fault) (bs bs' : List ℕ) : Type 0 where
  pub result : r ≡ r'
  pub shown : bs ≡ bs'

-- `read` gives one outcome
pub read_result_once : (rs : List Record) (ss address name : List ℕ) (clock : ℕ) (default : List ℕ) {r r' : Result ⊤ Fault} {bs bs' : List ℕ}
    → ReadAs rs ss address name clock default (told r) bs → ReadAs rs ss address name clock default (told r') bs' → SameShown r r' bs bs'
read_result_once rs ss address name clock default e f =
    let s = read_once rs ss address name clock default e f in record { result = told_once s.result; shown = s.shown }
