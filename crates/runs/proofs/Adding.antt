-- The table in which some entries are added: what an address finds in it, and the table with one entry more.
use mathlib.Core.Path.{◌≡◌, refl, sym, ◌∙◌, ap, ap₂, subst}
use mathlib.Core.Bool.{Bool, true, false, not, ◌&&◌}
use mathlib.Core.List.{List, [], ◌∷◌, ◌++◌, map}
use Prim.Native.Nat.{ℕ, suc, ◌+◌, ◌-◌, ◌*◌, ◌<◌, ◌≤◌}
use native.Mathlib.Omega.{arith}
use lib.Dec.{ltb, eqb}
use lib.ListN.{length, get_or, set, replicate, length-replicate, length-append, length-map}
use lib.Seq.{set-append_seam}
use borrow.Author.Tests.{ltb-true, lt-ltb, le-ltb, eqb-true, eqb-false}
use Rattle.laws.specs.Choose.{pick}
use Rattle.laws.specs.First.{first_of}
use Rattle.laws.specs.Lists.{every, place_of}
use Rattle.laws.proofs.Tests.{and_left, and_right}
use Rattle.record.specs.Address.{is_address}
use Rattle.record.specs.Address
use Rattle.record.specs.Places.{empty_record, is_in_use}
use Rattle.success.specs.Store.{part_of, part_at, with_part}
use Rattle.record.specs.declared.Record.{Record}
use Rattle.record.proofs.AddressLaws.{address_of_lem}
use Rattle.table.specs.Table.{Table, place_for, is_known, record_at, with_record}
use Rattle.table.specs.Add.{Entry, added, add_refusals, lowest_unused, fresh_record}
use Rattle.table.proofs.Untouched.{add_leaves}
use Rattle.table.proofs.OneRecord.{add_writes}
use Rattle.runs.specs.Run.{has_numbers}
use Rattle.runs.specs.Added.{is_of, is_among, is_taken}
use Rattle.runs.proofs.Fine.{Fine, fine_added}
use Rattle.laws.proofs.Lists.{none_any, place_below, place_copies, place_in, at_among, map_end, every_end, zeros_part, zeros_among}

-- so many records, the first of them fresh ones of these entries and the others empty, and a zeroed store
unfoldable pub table_with : ℕ → List Entry → Table
table_with n es = record { records = map fresh_record es ++ replicate (n - length es) empty_record; store = replicate (4096 * n) 0 }

-- an entry is well formed
abbrev pub is_formed : Entry → Bool
is_formed e = is_address e.address

-- entries that fit in so many records
pub record Ready (n : ℕ) (es : List Entry) : Type 0 where
  pub few : length es ≤ n
  pub formed : every is_formed es ≡ true
  pub fine : Fine (table_with n es)

-- a fresh record is for an address where its entry is
fresh_for : (a : List ℕ) (e : Entry) → is_formed e ≡ true → Address.is_for a (fresh_record e) ≡ is_of a e
unfolding Address.is_for is_in_use fresh_record is_of
fresh_for a e h = rw (address_of_lem (fresh_record e) e.address h refl)

module _ (n : ℕ) (es : List Entry) (ready : Ready n es) where
  -- how many records there are
  size : length (table_with n es).records ≡ n
  unfolding table_with
  size =
      length-append (map fresh_record es) _
      ∙ rw (length-map es fresh_record, length-replicate (n - length es) empty_record) (omega (arith, ready.few))

  -- an address stands where its entry does, or nowhere
  place_with : (a : List ℕ) → place_for a (table_with n es) ≡ pick (is_among a es) (place_of (is_of a) es) (length es + (n - length es))
  unfolding table_with place_for is_among Address.is_for is_in_use
  place_with a =
      place_in (Address.is_for a) (is_of a) is_formed fresh_record (fresh_for a) es _ ready.formed
      ∙ ap (λ (m : ℕ). pick (is_among a es) (place_of (is_of a) es) (length es + m)) (place_copies (Address.is_for a) (n - length es) empty_record)

  -- so it is in the table exactly where it is among the entries
  pub known_with : (a : List ℕ) → is_known a (table_with n es) ≡ is_among a es
  unfolding is_known is_among
  known_with a = rw (place_with a, size) (go (is_among a es) refl)
    where
      go : (b : Bool) → is_among a es ≡ b → ltb (pick b (place_of (is_of a) es) (length es + (n - length es))) n ≡ b
      go true k = lt-ltb _ n (omega (arith, place_below (is_of a) es k, ready.few))
      go false k = le-ltb _ n (omega arith)

  module _ (a : List ℕ) (among : is_among a es ≡ true) where
    -- the place of its entry
    place : ℕ
    place = place_of (is_of a) es

    -- where the address stands
    there : place_for a (table_with n es) ≡ place
    unfolding place
    there = place_with a ∙ rw among

    -- which is one of the entries
    below : place < length es
    unfolding place is_among
    below = place_below (is_of a) es among

    -- its record is fresh
    pub own_with : (d : Entry) → record_at (table_with n es) (place_for a (table_with n es)) ≡ fresh_record (get_or es (place_of (is_of a) es) d)
    unfolding record_at table_with place
    own_with d = ap (record_at (table_with n es)) there ∙ at_among fresh_record es _ place d empty_record below

    -- and its part is zero
    pub part_with : part_of (place_for a (table_with n es)) (table_with n es).store ≡ replicate 4096 0
    unfolding part_of part_at table_with
    part_with =
        ap (λ (i : ℕ). part_of i (replicate (4096 * n) 0)) there ∙ zeros_part (4096 * n) (4096 * place) 4096 (omega (arith, ready.few, below))

  -- the lowest unused record stands behind those of the entries
  lowest_with : lowest_unused (table_with n es) ≡ length es
  unfolding table_with lowest_unused is_in_use fresh_record
  lowest_with =
      place_in (λ r. not (is_in_use r)) (λ e. false) is_formed fresh_record (λ e h. refl) es _ ready.formed
      ∙ rw (none_any es, place_copies (λ (r : Record). not (is_in_use r)) (n - length es) empty_record) (omega arith)

  module _ (e : Entry) where
    -- `add` gives 0 exactly where the entry is taken
    pub result_with : eqb (added e (table_with n es)).result 0 ≡ is_taken n es e
    unfolding added add_refusals first_of is_taken
    result_with =
        rw (ready.fine.size, ready.fine.sound, known_with e.address, lowest_with, size)
        (go (is_address e.address) (is_among e.address es) (ltb (length es) n))
      where
        go : (a b c : Bool) → eqb (pick (not a) 7 (pick b 8 (pick (not c) 9 0))) 0 ≡ (a && (not b && c))
        go true true c = refl
        go true false true = refl
        go true false false = refl
        go false b c = refl

    -- those that are there then
    abbrev more : List Entry
    more = pick (is_taken n es e) (es ++ (e ∷ [])) es

    -- a taken entry is well formed, and has a record left
    taken : is_taken n es e ≡ true → (is_formed e ≡ true) × (length es < n)
    unfolding is_taken
    taken k = (
      and_left (is_address e.address) _ k,
      ltb-true _ _ (and_right (not (is_among e.address es)) _ (and_right (is_address e.address) _ k)),
    )

    -- a fresh record behind those of the entries
    written_with : length es < n → with_record (table_with n es) (length es) (fresh_record e) (replicate 4096 0) ≡ table_with n (es ++ (e ∷ []))
    unfolding with_record with_part part_at table_with
    written_with h = ap₂ (λ rs s. record { records = rs; store = s }) records (zeros_among (4096 * n) (4096 * length es) 4096 (omega arith))
      where
        left : ℕ
        left = n - length (es ++ (e ∷ []))

        seam : n - length es ≡ suc left
        seam = omega (arith, length-append es (e ∷ []))

        records : set (map fresh_record es ++ replicate (n - length es) empty_record) (length es) (fresh_record e)
            ≡ map fresh_record (es ++ (e ∷ [])) ++ replicate left empty_record
        records =
            ap₂ (λ (m i : ℕ). set (map fresh_record es ++ replicate m empty_record) i (fresh_record e)) seam (sym (length-map es fresh_record))
            ∙ set-append_seam (map fresh_record es) empty_record (replicate left empty_record) (fresh_record e)
            ∙ sym (map_end fresh_record es e (replicate left empty_record))

    -- `add` leaves the table with them
    pub table_with_lem : (added e (table_with n es)).table ≡ table_with n more
    table_with_lem = go (is_taken n es e) refl
      where
        go : (b : Bool) → is_taken n es e ≡ b → (added e (table_with n es)).table ≡ table_with n (pick b (es ++ (e ∷ [])) es)
        go true k =
            add_writes e (table_with n es) (eqb-true _ 0 (result_with ∙ k))
            ∙ ap (λ (i : ℕ). with_record (table_with n es) i (fresh_record e) (replicate 4096 0)) lowest_with ∙ written_with (taken k).1
        go false k = add_leaves e (table_with n es) (eqb-false _ 0 (result_with ∙ k))

    -- and they fit
    pub ready_more : has_numbers e ≡ true → Ready n more
    ready_more h = go (is_taken n es e) refl (subst Fine table_with_lem (fine_added e (table_with n es) h ready.fine))
      where
        go : (b : Bool) → is_taken n es e ≡ b → Fine (table_with n (pick b (es ++ (e ∷ [])) es)) → Ready n (pick b (es ++ (e ∷ [])) es)
        go true k f =
            record {
              few = omega (arith, length-append es (e ∷ []), (taken k).1);
              formed = every_end is_formed es e ready.formed (taken k).0;
              fine = f;
            }
        go false k f = ready
