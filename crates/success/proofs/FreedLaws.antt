-- The places of which those are freed whose end has come: their map and their slots, place by place, and how many stay occupied.
use mathlib.Core.Path.{◌≡◌, refl, sym, ◌∙◌, ap, ap₂}
use mathlib.Core.Bool.{Bool, true, false, ◌&&◌}
use mathlib.Core.List.{List, [], ◌∷◌, ◌++◌, map}
use Prim.Native.Nat.{ℕ, zero, suc, ◌+◌, ◌*◌, ◌-◌, ◌/◌, ◌^◌, ◌<◌, ◌≤◌}
use native.Mathlib.Omega.{arith}
use native.Mathlib.Numerals.{add-one}
use native.Mathlib.Nat.{le_refl, not-suc-le-zero, le_of_suc-le-suc, pow-succ', div-one, div-div-eq-div-mul}
use native.Mathlib.Decide.{dec_lt}
use lib.Dec.{ltb, leb}
use lib.ListN.{length, get_or, take, drop, set, drop_of_length-le}
use lib.Seq.{take-suc-set, drop-set-lt, append_snoc, drop-cons}
use borrow.Author.Tests.{lt-ltb, le-ltb, le-leb, lt-leb}
use Rattle.laws.specs.Choose.{pick}
use Rattle.laws.specs.Lists.{those}
use Rattle.record.specs.Places.{Place, free_place, places_in, places, map_of, slots_of, is_live, live}
use Rattle.success.specs.After.{freed, freed_at}
use Rattle.record.specs.declared.Slot.{Slot}
use Rattle.record.specs.declared.Record.{Record}
use Rattle.success.proofs.StoreLaws.{slots_of_length, freed_length}
use Rattle.record.proofs.MapLaws.{map_below}
use Rattle.record.proofs.SlotLaws.{placed}

-- the places of some slots, of which those are freed whose end has come
abbrev pub freed_of : ℕ → ℕ → List Slot → List Place
freed_of clock m ss = map (freed clock) (places_in m ss)

-- a place stays occupied where it is live
taken_live : (clock : ℕ) (p : Place) → (freed clock p).taken ≡ is_live clock p
unfolding freed is_live
taken_live clock p = go p.taken refl (dec_lt clock p.slot.end)
  where
    go : (t : Bool) → p.taken ≡ t → Dec (clock < p.slot.end)
        → (pick (p.taken && leb p.slot.end clock) free_place p).taken ≡ (p.taken && ltb clock p.slot.end)
    go false e d = rw e
    go true e (yes h) = rw (e, lt-ltb clock p.slot.end h, lt-leb p.slot.end clock h)
    go true e (no h) =
        let past : p.slot.end ≤ clock = omega arith in
        rw (e, le-ltb clock p.slot.end past, le-leb p.slot.end clock past)

-- the map of the places from place k on: the bit of that place, and twice the map of those behind it
map_from : (clock m : ℕ) (ss : List Slot) (k : ℕ) (d : Slot) → k < length ss
    → map_of (drop k (freed_of clock m ss))
    ≡ pick (is_live clock (placed (m / 2 ^ k) (get_or ss k d))) 1 0 + 2 * map_of (drop (suc k) (freed_of clock m ss))
unfolding places_in map_of
map_from clock m [] k d h = absurd (not-suc-le-zero h)
map_from clock m (s ∷ ss) zero d h = rw (div-one m, taken_live clock (placed m s))
map_from clock m (s ∷ ss) (suc k) d h =
    rw (pow-succ' 2 k, ← div-div-eq-div-mul m 2 (2 ^ k)) (map_from clock (m / 2) ss k d (le_of_suc-le-suc h))

-- the map of the last places is no larger than the map of all
map_rest : (ps : List Place) (k : ℕ) → map_of (drop k ps) ≤ map_of ps
unfolding map_of
map_rest ps zero = le_refl (map_of ps)
map_rest [] (suc k) = le_refl 0
map_rest (p ∷ ps) (suc k) = omega (arith, map_rest ps k)

-- behind eight places there is none
pub map_none : (clock m : ℕ) (ss : List Slot) → length ss ≡ 8 → 0 ≡ map_of (drop 8 (freed_of clock m ss))
unfolding map_of
map_none clock m ss eight = rw (drop_of_length-le (freed_of clock m ss) {i = 8} (omega (arith, freed_length clock m ss)))

-- one place more, in front of those whose map is known
pub record Turn (clock m : ℕ) (ss : List Slot) (i next : ℕ) : Type 0 where
  pub holds : next ≡ map_of (drop (i - 1) (freed_of clock m ss))
  pub fits : next < 256

pub map_turn : (clock m : ℕ) (ss : List Slot) (i out b : ℕ) (d : Slot) → length ss ≡ 8 → 0 < i → i ≤ 8
    → out ≡ map_of (drop i (freed_of clock m ss)) → b ≡ pick (is_live clock (placed (m / 2 ^ (i - 1)) (get_or ss (i - 1) d))) 1 0
    → Turn clock m ss i (b + 2 * out)
map_turn clock m ss i out b d eight h k e f =
    let near : suc (i - 1) ≡ i = omega arith in
    let one : b + 2 * out ≡ map_of (drop (i - 1) (freed_of clock m ss)) =
    ap₂ ◌+◌ f (ap (λ (n : ℕ). 2 * n) e ∙ ap (λ (n : ℕ). 2 * map_of (drop n (freed_of clock m ss))) (sym near))
    ∙ sym (map_from clock m ss (i - 1) d (omega arith)) in
    let size : length (freed_of clock m ss) ≡ 8 = freed_length clock m ss ∙ eight in
    record { holds = one; fits = omega (arith, map_rest (freed_of clock m ss) (i - 1), map_below (freed_of clock m ss) size) }

-- one slot more of which it is said whether it is freed
pub slots_turn : (clock m : ℕ) (out : List Slot) (i : ℕ) (d t : Slot) → i < length out → t ≡ (freed clock (placed m (get_or out i d))).slot
    → take (i + 1) (set out i t) ++ slots_of (freed_of clock (m / 2) (drop (i + 1) (set out i t)))
    ≡ take i out ++ slots_of (freed_of clock m (drop i out))
unfolding slots_of places_in
slots_turn clock m out i d t h e =
    rw (add-one i, drop-set-lt (suc i) out i t (le_refl (suc i)), take-suc-set out i t h, drop-cons out i d h, e)
    (append_snoc (take i out) (freed clock (placed m (get_or out i d))).slot (slots_of (freed_of clock (m / 2) (drop (suc i) out))))

-- as many places stay occupied as are live
those_live : (clock : ℕ) (ps : List Place) → length (those (λ p. p.taken) (map (freed clock) ps)) ≡ length (those (is_live clock) ps)
unfolding those freed
those_live clock [] = refl
those_live clock (p ∷ ps) = rw (taken_live clock p) (go (is_live clock p) (those_live clock ps))
  where
    go : (b : Bool) → length (those (λ p. p.taken) (map (freed clock) ps)) ≡ length (those (is_live clock) ps)
        → length (pick b (freed clock p ∷ those (λ p. p.taken) (map (freed clock) ps)) (those (λ p. p.taken) (map (freed clock) ps)))
        ≡ length (pick b (p ∷ those (is_live clock) ps) (those (is_live clock) ps))
    go true e = ap suc e
    go false e = e

pub count_live : (clock : ℕ) (r : Record) → length (those (λ p. p.taken) (freed_at clock r)) ≡ length (live clock r)
unfolding live freed_at
count_live clock r = those_live clock (places r) ∙ sym (slots_of_length (those (is_live clock) (places r)))
