-- Tables of accepted sizes whose records are whole and sound: opening gives one, and adding and handling keep it.
use mathlib.Core.Path.{◌≡◌, refl}
use mathlib.Core.Bool.{true, false}
use mathlib.Core.List.{List, [], ◌∷◌}
use Prim.Native.Nat.{ℕ}
use lib.Dec.{ltb}
use lib.ListN.{length, length-replicate}
use borrow.Author.Tests.{ltb-true}
use Rattle.laws.specs.First.{first_of}
use Rattle.laws.specs.Lists.{every}
use Rattle.laws.proofs.Tests.{and_left, and_right, every_head, every_tail, every_copy}
use Rattle.record.specs.Places.{empty_record, is_whole}
use Rattle.record.specs.Sound.{all_sound}
use Rattle.table.specs.Table.{Table, bad_size}
use Rattle.table.specs.HeldRecord.{is_held}
use Rattle.table.specs.Open.{opened, open_refusals, emptied}
use Rattle.table.specs.Add.{Entry, added}
use Rattle.table.specs.Handle.{Input, done}
use Rattle.table.specs.Run.{Sending, add_all, in_front_of, send_each, begun, ran}
use Rattle.table.proofs.OneRecord.{OneRecord, handle_one, add_one_record}
use Rattle.table.proofs.Sound.{open_sound, add_sound, handle_sound}
use Rattle.table.proofs.Whole.{held_whole, add_held, handle_held}
use Rattle.runs.specs.Run.{Run, has_numbers, given, table_at_end}

-- accepted sizes, and whole and sound records
pub record Fine (t : Table) : Type 0 where
  pub size : bad_size t ≡ false
  pub held : every is_held t.records ≡ true
  pub sound : all_sound t.records ≡ true

-- a table with one record changed has the sizes that it had
same_size : (t t' : Table) (i : ℕ) → OneRecord t t' i → bad_size t ≡ false → bad_size t' ≡ false
unfolding bad_size
same_size t t' i o e = rw (o.as_many, o.as_long) e

-- `open` gives such a table, whatever the records held
pub fine_opened : (t : Table) → bad_size t ≡ false → Fine (opened t).table
unfolding opened open_refusals first_of emptied bad_size is_held is_whole
fine_opened t e =
    record {
      size = rw (e, length-replicate (length t.records) empty_record, length-replicate {A = ℕ} (length t.store) 0) e;
      held = rw e (every_copy is_held (length t.records) empty_record refl);
      sound = open_sound t (rw e);
    }

-- `add` keeps it
pub fine_added : (e : Entry) (t : Table) → has_numbers e ≡ true → Fine t → Fine (added e t).table
unfolding has_numbers
fine_added e t n f =
    record {
      size = same_size t _ _ (add_one_record e t) f.size;
      held = add_held e t (ltb-true _ _ (and_left _ _ n)) (ltb-true _ _ (and_right (ltb e.start 4294967296) _ n)) f.held;
      sound = add_sound e t f.sound;
    }

-- and so do several
fine_added_all : (es : List Entry) (t : Table) → every has_numbers es ≡ true → Fine t → Fine (add_all es t)
unfolding add_all
fine_added_all [] t n f = f
fine_added_all (e ∷ es) t n f =
    fine_added_all es (added e t).table (every_tail has_numbers e es n) (fine_added e t (every_head has_numbers e es n) f)

-- `handle` keeps it
pub fine_handled : (t : Table) (buffer : List ℕ) (x : Input) → Fine t → Fine (done t buffer x).table
fine_handled t buffer x f =
    record {
      size = same_size t _ _ (handle_one t buffer x (held_whole t.records f.held)) f.size;
      held = handle_held t buffer x f.held;
      sound = handle_sound t buffer x f.held f.sound;
    }

-- and so do several
fine_sent : (xs : List Sending) (t : Table) → Fine t → Fine (send_each xs t).table
unfolding send_each in_front_of
fine_sent [] t f = f
fine_sent (x ∷ xs) t f = fine_sent xs (done t x.buffer x.input).table (fine_handled t x.buffer x.input f)

-- the table with which the sending of a run begins
pub fine_begun : (r : Run) → Fine (begun r.lent r.entries)
unfolding begun
fine_begun r = fine_added_all r.entries (opened r.lent).table r.numbers (fine_opened r.lent r.sizes)

-- and the one at its end
pub fine_at_end : (r : Run) → Fine (table_at_end r)
unfolding table_at_end given ran
fine_at_end r = fine_sent r.sendings (begun r.lent r.entries) (fine_begun r)
