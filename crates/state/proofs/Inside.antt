-- What is shown of the store lies in it, whatever records and store are lent: only sound records in a store of their size are shown.
use mathlib.Core.Path.{◌≡◌, refl}
use mathlib.Core.Bool.{Bool, true, false, not}
use Prim.Native.Nat.{ℕ, ◌+◌, ◌*◌, ◌<◌, ◌≤◌}
use native.Mathlib.Decide.{dec_lt}
use native.Mathlib.Omega.{arith}
use lib.Dec.{eqb, ltb}
use lib.ListN.{length, get_or, get_or-eq_default}
use borrow.Author.Tests.{ltb-true, eqb-true, not-false}
use Rattle.laws.specs.Choose.{pick}
use Rattle.laws.specs.First.{tests}
use Rattle.laws.specs.Lists.{every}
use Rattle.laws.proofs.Tests.{and_left, or_left, every_at, place_holds}
use Rattle.laws.proofs.Rows.{none_refused}
use Rattle.record.specs.Address.{is_for}
use Rattle.record.specs.Packages.{package_named}
use Rattle.record.specs.Places.{empty_record, is_in_use, free_place, places, is_live, is_of, newest}
use Rattle.record.specs.Sound.{is_sound, all_sound}
use Rattle.success.specs.Store.{part_at, room_at}
use Rattle.record.specs.declared.Record.{Record}
use Rattle.record.proofs.Places.{place_at}
use Rattle.record.proofs.SoundLaws.{sound_found}
use Rattle.table.specs.Table.{Table, bad_size, place_for, is_known, record_at}
use Rattle.table.specs.Read.{Query, asked_record, asked_rows, read_refusals, body_at, newest_body, shown_for, state_with, state_of}
use Rattle.table.specs.declared.Shown.TheVariants.{Stored, Default, Front}
use Rattle.table.proofs.OneRecord.{part_lies}

-- where reading is not refused, no test of its list holds
none_refusing : (y : Query) (t : Table) → (state_of y t).result ≡ 0 → (k : ℕ) → get_or (tests (read_refusals (bad_size t) y t)) k false ≡ false
unfolding state_of state_with read_refusals asked_rows every
none_refusing y t h = none_refused (read_refusals (bad_size t) y t) refl h

-- a body of the newest live publication of a sound record in use has at most 512 bytes
short : (r : Record) (clock event : ℕ) → is_in_use r ≡ true → is_sound r ≡ true → (place_at (places r) (newest clock event r)).slot.length ≤ 512
unfolding newest is_of is_live
short r clock event u e = go (dec_lt (newest clock event r) (length (places r)))
  where
    go : Dec (newest clock event r < length (places r)) → (place_at (places r) (newest clock event r)).slot.length ≤ 512
    go (yes h) =
        let live = and_left _ _ (and_left _ _ (place_holds _ (places r) free_place h)) in
        ((sound_found r u e).each (newest clock event r) (and_left (place_at (places r) (newest clock event r)).taken _ live)).short
    go (no h) =
        let past : length (places r) ≤ newest clock event r = omega arith in rw (get_or-eq_default (places r) free_place past) (omega arith)

module _ (y : Query) (t : Table) (h : (state_of y t).result ≡ 0) where
  -- the record that is asked, where it stands, and the slot that is shown
  abbrev own : Record
  own = asked_record y t

  abbrev i : ℕ
  i = place_for y.address t

  abbrev k : ℕ
  k = newest y.clock (package_named y.name) own

  -- the address is known
  known : i < length t.records
  unfolding read_refusals asked_rows is_known
  known = ltb-true _ _ (not-false _ (or_left (not (is_known y.address t)) _ (none_refusing y t h 3)))

  -- its record is in use
  used : is_in_use own ≡ true
  unfolding asked_record record_at place_for is_for
  used = and_left _ _ (place_holds (is_for y.address) t.records empty_record known)

  -- and sound
  sound : is_sound own ≡ true
  unfolding read_refusals all_sound asked_record record_at
  sound = every_at is_sound t.records i empty_record (and_left _ _ (not-false (all_sound t.records) (none_refusing y t h 2))) known

  -- the store has the part of its place
  lies : 4096 * i + 4096 ≤ length t.store
  unfolding read_refusals
  lies = part_lies t i (none_refusing y t h 0) known

  -- the body of a slot of it lies there
  body_lies : (from n : ℕ) → k < 8 → body_at own i k ≡ Stored from n → from + n ≤ length t.store
  unfolding body_at part_at room_at
  body_lies from n l e =
      let at : 4096 * i + 512 * k ≡ from = cc in
      let size : (place_at (places own) k).slot.length ≡ n = cc in
      omega (arith, lies, short own y.clock (package_named y.name) used sound)

-- so what is shown of the store lies in it
pub shown_inside : (y : Query) (t : Table) (from n : ℕ) → (state_of y t).shown ≡ Stored from n → from + n ≤ length t.store
unfolding state_of state_with shown_for newest_body
shown_inside y t from n e = go (eqb (state_of y t).result 0) refl e
  where
    k : ℕ
    k = newest y.clock (package_named y.name) (asked_record y t)

    shown : (state_of y t).result ≡ 0 → (b : Bool) → ltb k 8 ≡ b → pick b (body_at (asked_record y t) (place_for y.address t) k) Default ≡ Stored from n
        → from + n ≤ length t.store
    shown z true l e = body_lies y t z from n (ltb-true k 8 l) e
    shown z false l e = let no : ◌≡◌ {A = ℕ} 0 1 = cc in omega arith

    go : (b : Bool) → eqb (state_of y t).result 0 ≡ b → pick b (shown_for y t) Front ≡ Stored from n → from + n ≤ length t.store
    go true z e = shown (eqb-true _ 0 z) (ltb k 8) refl e
    go false z e = let no : ◌≡◌ {A = ℕ} 0 1 = cc in omega arith
