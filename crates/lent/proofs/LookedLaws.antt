-- The looks at the first records of a slice, made one after the other: where none is made yet stands the look at the all-zero record.
use mathlib.Core.Path.{◌≡◌, sym, ◌∙◌, ap}
use mathlib.Core.List.{List, []}
use Prim.Native.Nat.{ℕ, ◌+◌, ◌<◌, ◌≤◌, min}
use native.Mathlib.Decide.{ℕ_discrete, dec_lt}
use native.Mathlib.Omega.{arith}
use lib.ListN.{length, get_or, take, set, replicate, length-take, get_or-eq_default}
use lib.Seq.{get_or-take, take_all}
use Rattle.std.proofs.lemmas.List.{get_or-replicate, get_or-set_same, get_or-set_other, get_or_default}
use Rattle.std.proofs.lemmas.List.FromFn.{fill_by_all}
use Rattle.record.specs.Places.{empty_record}
use Rattle.record.specs.declared.Record.{Record}
use Rattle.lent.specs.Sixteen.{record_at, first_sixteen}
use Rattle.lent.specs.Look.{look_of, looks_of}
use Rattle.lent.specs.declared.look.Look.{Look}

-- the look at the all-zero record
abbrev none : Look
none = look_of empty_record

-- the looks are those at some records, and past these at the all-zero record
abbrev pub LooksAt : List Look → List Record → Type 0
LooksAt ls rs = (k : ℕ) → get_or ls k none ≡ look_of (record_at rs k)

-- at the begin no record is looked at
pub looks_none : (l : Look) → l ≡ none → LooksAt (replicate 16 l) []
unfolding record_at
looks_none l e k = go (dec_lt k 16)
  where
    go : Dec (k < 16) → get_or (replicate 16 l) k none ≡ none
    go (yes h) = get_or-replicate 16 k l none h ∙ e
    go (no h) = get_or-eq_default (replicate 16 l) none {n = k} (omega arith)

module _ (rs : List Record) (i : ℕ) (here : i < length rs) where
  -- of the records up to place i each but the last is one up to there
  record_before : (k : ℕ) → (k ≡ i → ⊥) → record_at (take i rs) k ≡ record_at (take (i + 1) rs) k
  unfolding record_at
  record_before k n = go (dec_lt k i)
    where
      go : Dec (k < i) → get_or (take i rs) k empty_record ≡ get_or (take (i + 1) rs) k empty_record
      go (yes h) = get_or-take i rs k empty_record h ∙ sym (get_or-take (i + 1) rs k empty_record (omega arith))
      go (no h) =
          get_or-eq_default (take i rs) empty_record {n = k} (omega (arith, length-take i rs))
          ∙ sym (get_or-eq_default (take (i + 1) rs) empty_record {n = k} (omega (arith, length-take (i + 1) rs)))

  -- one record more
  pub looks_more : (ls : List Look) (l : Look) (d : Record) → i < length ls → l ≡ look_of (get_or rs i d) → LooksAt ls (take i rs)
      → LooksAt (set ls i l) (take (i + 1) rs)
  unfolding record_at
  looks_more ls l d h e w k = go (ℕ_discrete k i)
    where
      go : Dec (k ≡ i) → get_or (set ls i l) k none ≡ look_of (record_at (take (i + 1) rs) k)
      go (yes p) =
          rw (p, get_or-set_same ls i l none h, get_or-take (i + 1) rs i empty_record (omega arith), ← get_or_default rs i d empty_record here) e
      go (no n) = get_or-set_other ls i k l none n ∙ w k ∙ ap look_of (record_before k n)

-- at the end the first sixteen are
pub looks_all : (ls : List Look) (rs : List Record) (n i : ℕ) → n ≡ min (length rs) 16 → length (take n rs) ≤ i → length ls ≡ 16
    → LooksAt ls (take i (take n rs)) → ls ≡ looks_of rs
unfolding looks_of first_sixteen record_at
looks_all ls rs n i e h l w = fill_by_all (λ k. look_of (record_at rs k)) ls 16 none l at_place
  where
    same_record : (k : ℕ) → k < 16 → record_at (take n rs) k ≡ record_at rs k
    same_record k m = go (dec_lt k n)
      where
        go : Dec (k < n) → get_or (take n rs) k empty_record ≡ get_or rs k empty_record
        go (yes p) = get_or-take n rs k empty_record p
        go (no p) =
            get_or-eq_default (take n rs) empty_record {n = k} (omega (arith, length-take n rs))
            ∙ sym (get_or-eq_default rs empty_record {n = k} (omega arith))

    at_place : (k : ℕ) → k < 16 → get_or ls k none ≡ look_of (record_at rs k)
    at_place k m = (rw (take_all i (take n rs) h) at (w k)) ∙ ap look_of (same_record k m)
