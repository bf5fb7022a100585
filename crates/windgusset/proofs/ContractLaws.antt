-- From what the callees ensure, the contracts: the functions called settle by the looks at the records, and the one that is taken out,
-- what the definitions settle of the lent table, once the record kept is put at its place.
use mathlib.Core.Path.{◌≡◌, sym, ◌∙◌, ap}
use mathlib.Core.List.{List}
use Prim.Native.Nat.{ℕ}
use native.Mathlib.Nat.{le_refl}
use lib.ListN.{length, set, replicate}
use lib.Seq.{set_out}
use Rattle.std.specs.Prelude.{Option, Some, None, Result, Ok, Err}
use Rattle.record.specs.Places.{empty_record}
use Rattle.record.specs.declared.Record.{Record}
use Rattle.lent.specs.Sixteen.{record_at}
use Rattle.lent.specs.Look.{looks_of}
use Rattle.response.specs.Faults.{number_of}
use Rattle.response.specs.declared.fault.Fault.{Fault}
use Rattle.response.proofs.ToldLaws.{number_above}
use Rattle.table.specs.Looked.{open_result, open_store, emptied_to, AddOut, HandleOut, entry_of, add_out, out_of, add_store, sought_in, begun_of, kept_out, handle_out, handle_store, handle_answer}
use Rattle.table.specs.Read.{readout_of}
use Rattle.table.specs.declared.Handled.{Handled}
use Rattle.table.specs.declared.Kept.{Kept}
use Rattle.table.specs.declared.looks.Sought.{Sought}
use Rattle.table.specs.declared.handling.Begun.{Begun}
use Rattle.table.proofs.LookedLaws.{LooksLong, emptied_good, emptied_bad, open_looked, add_looked, handle_looked}
use Rattle.state.specs.Looked.{state_at, ReadAt}
use Rattle.state.proofs.LentLaws.{read_looked}
use Rattle.windgusset.specs.Ensured.{OpenedAs, AddedAs, HandledAs, StateAs, ReadAs}

module _ (records : List Record) (store : List ℕ) where
  -- the empty record put at all sixteen places, and what `open_store` makes of the store, is `open`
  pub opened_as : (r : ℕ) (records' : List Record) (store' : List ℕ) → r ≡ open_result (length records) store
      → records' ≡ emptied_to (open_result (length records) store) (length records) 16 records → store' ≡ open_store (length records) store
      → OpenedAs records store r records' store'
  unfolding OpenedAs
  opened_as r records' store' e-result e-records e-store = rw (e-result, e-records, e-store) (sym (open_looked records store))

  -- where the sizes are good, that is every record filled with the empty one
  pub opened_ok : (records' : List Record) (store' : List ℕ) {e : Record} → 0 ≡ open_result (length records) store → e ≡ empty_record
      → records' ≡ replicate (length records) e → store' ≡ open_store (length records) store → OpenedAs records store 0 records' store'
  opened_ok records' store' good is filled after =
      opened_as 0 records' store' good (filled ∙ ap (replicate (length records)) is ∙ sym (emptied_good records store (sym good))) after

  -- and where they are not, the records as they were
  pub opened_err : (f : Fault) (store' : List ℕ) → number_of f ≡ open_result (length records) store → store' ≡ open_store (length records) store
      → OpenedAs records store (number_of f) records store'
  opened_err f store' bad after =
      opened_as (number_of f) records store' bad (sym (emptied_bad records store (λ none. number_above f (bad ∙ none)))) after

module _ (records : List Record) (long : LooksLong records) where
  -- what the core makes of the looks, with the record kept put at its place, is `add`
  module _ (store address : List ℕ) (start spent : ℕ) {store' : List ℕ} (after : store' ≡ add_store (looks_of records) (length records) store address) where
    abbrev Added : Result Kept Fault → Type 0
    Added r = out_of (length records) r ≡ add_out (looks_of records) (length records) store address start spent

    put_out : {out : AddOut} → out ≡ add_out (looks_of records) (length records) store address start spent
        → AddedAs records store address start spent out.result (set records out.index out.kept) store'
    unfolding AddedAs entry_of
    put_out e = rw (e, after) (sym (add_looked records store address start spent long))

    pub added_ok : {k : Kept} → Added (Ok k) → AddedAs records store address start spent 0 (set records k.place k.record) store'
    added_ok e = put_out e

    pub added_err : (f : Fault) → Added (Err f) → AddedAs records store address start spent (number_of f) records store'
    added_err f e = rw (set_out records (length records) empty_record (le_refl (length records))) at (put_out e)

  -- what it settles with the record that it begins at, with the record kept put at its place, is `handle`
  module _ (store : List ℕ) (clock number : ℕ) (request answer : List ℕ) where
    abbrev begun : Begun
    begun = begun_of (looks_of records) (length records) request

    abbrev own : Record
    own = record_at records begun.place

    module _ {store' answer' : List ℕ} (after : store' ≡ handle_store begun own (length records) store clock number request answer)
        (wrote : answer' ≡ handle_answer begun own (length records) store clock number request answer) where
      abbrev Handles : Handled → Option Kept → Type 0
      Handles handled kept = kept_out handled (length records) own kept ≡ handle_out begun own (length records) store clock number request answer

      put_handled : {out : HandleOut} → out ≡ handle_out begun own (length records) store clock number request answer
          → HandledAs records store clock number request answer out.handled (set records out.index out.kept) store' answer'
      unfolding HandledAs
      put_handled e = rw (e, after, wrote) (sym (handle_looked records store clock number request answer long))

      pub handled_kept : {handled : Handled} {k : Kept} → Handles handled (Some k)
          → HandledAs records store clock number request answer handled (set records k.place k.record) store' answer'
      handled_kept e = put_handled e

      pub handled_none : {handled : Handled} → Handles handled None → HandledAs records store clock number request answer handled records store' answer'
      handled_none e = rw (set_out records (length records) own (le_refl (length records))) at (put_handled e)

  module _ (store address name : List ℕ) (clock : ℕ) where
    -- the record that is found of the address
    abbrev sought : Sought
    sought = sought_in address (looks_of records) (length records)

    abbrev found : Record
    found = record_at records sought.place

    -- the state with that record is `read_state`
    pub state_as : StateAs records store address name clock (state_at sought found (length records) (length store) name clock)
    unfolding StateAs
    state_as = sym (read_looked records store address name clock long)

    -- what is told and shown of that state is `read`
    pub read_as : (default : List ℕ) (r : ℕ) (shown : List ℕ) → ReadAt sought found (length records) store name clock default r shown
        → ReadAs records store address name clock default r shown
    unfolding StateAs ReadAs ReadAt
    read_as default r shown h = h ∙ ap (readout_of store default) state_as
