-- What a run gives follows from the number of records, the entries and the inputs: what was lent holds no part in it.
use mathlib.Core.Path.{◌≡◌, refl, sym, ◌∙◌, ap, ap₂, subst}
use mathlib.Core.Bool.{true}
use mathlib.Core.List.{List, [], ◌∷◌, map}
use Prim.Native.Nat.{ℕ, ◌<◌, ◌≤◌}
use native.Mathlib.Omega.{arith}
use lib.ListN.{length}
use borrow.Author.Tests.{ltb-true}
use Rattle.laws.proofs.Tests.{every_at}
use Rattle.record.specs.Places.{empty_record}
use Rattle.record.specs.declared.Record.{Record}
use Rattle.table.specs.Table.{Table, is_known, record_at}
use Rattle.table.specs.HeldRecord.{is_held}
use Rattle.table.specs.Add.{fresh_record}
use Rattle.table.specs.Handle.{Input}
use Rattle.table.specs.Run.{Given, in_front_of, begun, ran}
use Rattle.table.proofs.Whole.{held_found}
use Rattle.runs.specs.Run.{Run, given, exchanges, inputs}
use Rattle.runs.specs.Added.{taken_from, added_in, is_added, entry_of}
use Rattle.runs.specs.Alone.{answered}
use Rattle.runs.proofs.Fine.{fine_begun}
use Rattle.runs.proofs.Sent.{own_in, table_in, send_in, sent_in}
use Rattle.runs.proofs.Adding.{table_with}
use Rattle.runs.proofs.Begun.{begun_with, known_begun, own_begun}

-- what a run gives is what its inputs give
pub given_in : (r : Run) → given r ≡ send_in (inputs r) (begun r.lent r.entries)
unfolding given ran inputs
given_in r = sent_in r.sendings (begun r.lent r.entries) (fine_begun r) r.buffers

-- and so are its exchanges
pub exchanges_in : (r : Run) → exchanges r ≡ (send_in (inputs r) (begun r.lent r.entries)).exchanges
unfolding exchanges
exchanges_in r = ap (λ (g : Given). g.exchanges) (given_in r)

-- from the table that the number of records and the entries tell
pub begun_alike : (r r' : Run) → length r.lent.records ≡ length r'.lent.records → r.entries ≡ r'.entries
    → begun r.lent r.entries ≡ begun r'.lent r'.entries
unfolding added_in
begun_alike r r' n e = begun_with r ∙ ap₂ (λ m es. table_with m (taken_from m [] es)) n e ∙ sym (begun_with r')

-- each input is given back with its answer
pub inputs_back : (xs : List Input) (t : Table) → map (λ x. x.input) (send_in xs t).exchanges ≡ xs
unfolding send_in in_front_of answered
inputs_back [] t = refl
inputs_back (x ∷ xs) t = ap (λ l. x ∷ l) (inputs_back xs (table_in t x))

-- the count of tags with which an address was added is one of 32 bits
pub few_spent : (r : Run) (a : List ℕ) → is_added a r ≡ true → (entry_of a r).spent ≤ 4294967295
unfolding is_known record_at fresh_record
few_spent r a h =
    let known : is_known a (begun r.lent r.entries) ≡ true = known_begun r a ∙ h in
    let held : is_held (own_in a (begun r.lent r.entries)) ≡ true = every_at is_held _ _ empty_record (fine_begun r).held (ltb-true _ _ known) in
    let few : (own_in a (begun r.lent r.entries)).spent < 4294967296 = (held_found _ held).spent_fits in
    subst (λ (o : Record). o.spent ≤ 4294967295) (own_begun r a h) (omega arith)
