-- The table with which the sending of a run begins, told by the number of records and the entries.
use mathlib.Core.Path.{◌≡◌, refl, sym, ◌∙◌, ap, ap₂, subst}
use mathlib.Core.Bool.{Bool, true, false}
use mathlib.Core.List.{List, [], ◌∷◌, ◌++◌, append_assoc, append-nil}
use Prim.Native.Nat.{ℕ, ◌-◌}
use native.Mathlib.Omega.{arith}
use lib.ListN.{length, replicate}
use Rattle.laws.specs.Choose.{pick}
use Rattle.laws.specs.Lists.{every}
use Rattle.laws.proofs.Tests.{every_head, every_tail}
use Rattle.record.specs.Places.{empty_record}
use Rattle.table.specs.Table.{Table, bad_size, is_known}
use Rattle.table.specs.Open.{opened, emptied}
use Rattle.table.specs.Add.{Entry, added, fresh_record}
use Rattle.table.specs.Run.{add_all, begun}
use Rattle.table.proofs.OneRecord.{good_size}
use Rattle.runs.specs.Run.{Run, has_numbers, accepted_from, accepted}
use Rattle.runs.specs.Added.{is_taken, taken_from, added_in, is_added, entry_of}
use Rattle.runs.proofs.Fine.{Fine, fine_opened}
use Rattle.runs.proofs.Sent.{own_in, part_in}
use Rattle.runs.proofs.Adding.{table_with, Ready, known_with, own_with, part_with, result_with, table_with_lem, ready_more}

-- one entry more or less behind some, with others behind it
one_more : (xs : List Entry) (b : Bool) (x : Entry) (ys : List Entry) → pick b (xs ++ (x ∷ [])) xs ++ ys ≡ xs ++ pick b (x ∷ ys) ys
one_more xs true x ys = append_assoc xs (x ∷ []) ys
one_more xs false x ys = refl

-- what comes of entries that are given to `add` beside those that are there
record Comes (n : ℕ) (there es : List Entry) : Type 0 where
  pub table : add_all es (table_with n there) ≡ table_with n (taken_from n there es)
  pub ready : Ready n (taken_from n there es)
  pub accepts : taken_from n there es ≡ there ++ accepted_from es (table_with n there)

comes : (n : ℕ) (there es : List Entry) → Ready n there → every has_numbers es ≡ true → Comes n there es
unfolding add_all taken_from accepted_from
comes n there [] ready k = record { table = refl; ready = ready; accepts = sym (append-nil there) }
comes n there (e ∷ es) ready k =
    let deep = comes n (pick (is_taken n there e) (there ++ (e ∷ [])) there) es (ready_more n there ready e (every_head has_numbers e es k)) (every_tail has_numbers e es k) in
    record {
      table = ap (add_all es) (table_with_lem n there ready e) ∙ deep.table;
      ready = deep.ready;
      accepts =
          deep.accepts
          ∙ ap (λ (t : Table). pick (is_taken n there e) (there ++ (e ∷ [])) there ++ accepted_from es t) (sym (table_with_lem n there ready e))
          ∙ rw (result_with n there ready e) (one_more there (is_taken n there e) e (accepted_from es (added e (table_with n there)).table));
    }

module _ (r : Run) where
  -- so many records
  abbrev n : ℕ
  n = length r.lent.records

  -- opening gives the table with no entry, whatever was lent
  opened_with : (opened r.lent).table ≡ table_with n []
  unfolding opened emptied table_with bad_size
  opened_with =
      rw r.sizes (ap₂ (λ m k. record { records = replicate m empty_record; store = replicate k 0 }) none (good_size _ _ r.sizes))
    where
      none : n ≡ n - 0
      none = omega arith

  -- what comes of all its entries
  all : Comes n [] r.entries
  unfolding every
  all =
      comes n [] r.entries
      (record { few = omega arith; formed = refl; fine = subst Fine opened_with (fine_opened r.lent r.sizes) }) r.numbers

  -- the table with which the sending begins has the entries that are added
  pub begun_with : begun r.lent r.entries ≡ table_with n (added_in r)
  unfolding begun added_in
  begun_with = ap (add_all r.entries) opened_with ∙ all.table

  -- these are the entries that `add` accepts
  pub added_accepted : added_in r ≡ accepted r
  unfolding added_in accepted
  added_accepted = all.accepts ∙ ap (accepted_from r.entries) (sym opened_with)

  -- and these fit in the records
  ready : Ready n (added_in r)
  unfolding added_in
  ready = all.ready

  -- an address is in it exactly where it was added
  pub known_begun : (a : List ℕ) → is_known a (begun r.lent r.entries) ≡ is_added a r
  unfolding is_added
  known_begun a = ap (is_known a) begun_with ∙ known_with n (added_in r) ready a

  module _ (a : List ℕ) (h : is_added a r ≡ true) where
    -- its record is fresh
    pub own_begun : own_in a (begun r.lent r.entries) ≡ fresh_record (entry_of a r)
    unfolding is_added entry_of
    own_begun = ap (own_in a) begun_with ∙ own_with n (added_in r) ready a h _

    -- and its part is zero
    pub part_begun : part_in a (begun r.lent r.entries) ≡ replicate 4096 0
    unfolding is_added
    part_begun = ap (part_in a) begun_with ∙ part_with n (added_in r) ready a h
