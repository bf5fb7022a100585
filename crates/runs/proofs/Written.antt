-- A table with another record at one place and another part for it: what stands there, and that nothing else differs.
use mathlib.Core.Path.{◌≡◌, refl, sym, ◌∙◌, ap}
use mathlib.Core.Bool.{Bool, true, false}
use mathlib.Core.List.{List}
use Prim.Native.Nat.{ℕ, ◌+◌, ◌*◌, ◌<◌, ◌≤◌}
use native.Mathlib.Omega.{arith}
use lib.Dec.{ltb}
use lib.ListN.{length, length-set}
use lib.Seq.{get_or-set_same, get_or-set_other}
use borrow.Author.Tests.{ltb-true, ltb-false}
use Rattle.laws.specs.Lists.{part, put_at}
use Rattle.laws.proofs.Parts.{put_part, put_part_before, put_part_behind}
use Rattle.record.specs.Address.{is_for}
use Rattle.record.specs.Places.{empty_record}
use Rattle.success.specs.Store.{part_of, part_at, with_part}
use Rattle.record.specs.declared.Record.{Record}
use Rattle.table.specs.Table.{Table, bad_size, place_for, is_known, record_at, with_record}
use Rattle.table.proofs.OneRecord.{part_lies}
use Rattle.laws.proofs.Lists.{place_kept}

module _ (t : Table) (i : ℕ) (r : Record) (bs : List ℕ) where
  -- the table so written
  abbrev t' : Table
  t' = with_record t i r bs

  module _ (a : List ℕ) (alike : is_for a r ≡ is_for a (record_at t i)) where
    -- an address stands where it stood
    pub place_stays : place_for a t' ≡ place_for a t
    unfolding place_for with_record record_at
    place_stays = place_kept (is_for a) t.records i r empty_record alike

    -- and is there where it was
    pub known_stays : is_known a t' ≡ is_known a t
    unfolding is_known with_record
    known_stays = rw (place_stays, length-set t.records i r)

  -- every other record is as before
  pub record_other : (j : ℕ) → (j ≡ i → ⊥) → record_at t' j ≡ record_at t j
  unfolding record_at with_record
  record_other j n = get_or-set_other t.records i j r empty_record n

  module _ (size : bad_size t ≡ false) (inside : i < length t.records) (long : length bs ≡ 4096) where
    -- the part lies in the store
    fits : 4096 * i + length bs ≤ length t.store
    fits = omega (arith, part_lies t i size inside)

    -- the record is there
    pub record_there : record_at t' i ≡ r
    unfolding record_at with_record
    record_there = get_or-set_same t.records i r empty_record inside

    -- and so is the part
    pub part_there : part_of i t'.store ≡ bs
    unfolding part_of part_at with_part with_record
    part_there = ap (λ (n : ℕ). part (put_at t.store (4096 * i) bs) (4096 * i) (4096 * i + n)) (sym long) ∙ put_part t.store (4096 * i) bs fits

    -- every other part is as before
    pub part_other : (j : ℕ) → (j ≡ i → ⊥) → part_of j t'.store ≡ part_of j t.store
    unfolding part_of part_at with_part with_record
    part_other j n = go (ltb j i) refl
      where
        go : (b : Bool) → ltb j i ≡ b → part (put_at t.store (4096 * i) bs) (4096 * j) (4096 * j + 4096) ≡ part t.store (4096 * j) (4096 * j + 4096)
        go true e = put_part_before t.store (4096 * i) bs fits _ _ (omega (arith, ltb-true j i e))
        go false e = put_part_behind t.store (4096 * i) bs fits _ _ (omega (arith, ltb-false j i e, n))
