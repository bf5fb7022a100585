-- The laws of places: slots and map give them back, and what a test says of the occupied slots it says of each occupied place.
use mathlib.Core.Path.{◌≡◌, refl, sym, ◌∙◌, ap}
use mathlib.Core.Bool.{Bool, true, false, not, false≢true}
use mathlib.Core.List.{List, [], ◌∷◌}
use mathlib.Core.Logic.{◌⊎◌, inl, inr}
use Prim.Native.Nat.{ℕ, zero, suc, ◌+◌, ◌*◌, ◌/◌, ◌%◌, ◌<◌}
use native.Mathlib.Decide.{dec_lt}
use native.Mathlib.Omega.{arith}
use lib.Dec.{eqb}
use lib.ListN.{length, get_or, get_or-eq_default}
use borrow.Author.Tests.{not-true, eqb-false, eq-eqb, ne_eqb}
use Rattle.laws.specs.Choose.{pick}
use Rattle.laws.specs.Lists.{every, pairwise, those}
use Rattle.laws.proofs.Tests.{every_head, every_tail, every_cons, pairwise_head, pairwise_tail, pairwise_cons}
use Rattle.record.specs.Places.{Place, free_place, places_in, map_of, slots_of}
use Rattle.record.specs.declared.Slot.{Slot}

-- the place of that number; a free one past the end
abbrev pub place_at : List Place → ℕ → Place
place_at ps k = get_or ps k free_place

-- an occupied place is there
pub taken_below : (ps : List Place) (k : ℕ) → (place_at ps k).taken ≡ true → k < length ps
taken_below ps k t = go (dec_lt k (length ps))
  where
    go : Dec (k < length ps) → k < length ps
    go (yes h) = h
    go (no h) = absurd (false≢true (rw (get_or-eq_default ps free_place {n = k} (omega arith)) at t))

-- the slots of the occupied places
abbrev pub slots_taken : List Place → List Slot
slots_taken ps = slots_of (those (λ p. p.taken) ps)

-- the lowest bit of a map says whether the first place is occupied
pub lowest_bit : (t : Bool) (m : ℕ) → eqb ((pick t 1 0 + 2 * m) % 2) 1 ≡ t
lowest_bit true m = eq-eqb ((1 + 2 * m) % 2) 1 (omega arith)
lowest_bit false m = ne_eqb ((0 + 2 * m) % 2) 1 (omega arith)

-- its other bits are the map of the other places
pub other_bits : (t : Bool) (m : ℕ) → (pick t 1 0 + 2 * m) / 2 ≡ m
other_bits true m = omega arith
other_bits false m = omega arith

-- the map and the slots of some places give those places back
pub places_back : (ps : List Place) → places_in (map_of ps) (slots_of ps) ≡ ps
unfolding places_in map_of slots_of
places_back [] = refl
places_back (p ∷ ps) = rw (lowest_bit p.taken (map_of ps), other_bits p.taken (map_of ps), places_back ps)

-- what holds of the occupied slots holds of those behind the first place
taken_rest : (P : List Slot → Type 0) → ((s : Slot) (ss : List Slot) → P (s ∷ ss) → P ss) → (p : Place) (ps : List Place)
    → P (slots_taken (p ∷ ps)) → P (slots_taken ps)
unfolding slots_of those
taken_rest P f p ps h = go p.taken h
  where
    go : (b : Bool) → P (slots_of (pick b (p ∷ those (λ p. p.taken) ps) (those (λ p. p.taken) ps))) → P (slots_taken ps)
    go true h = f p.slot (slots_taken ps) h
    go false h = h

-- where the first place is occupied, its slot is the first
taken_first : (P : List Slot → Type 0) (p : Place) (ps : List Place) → p.taken ≡ true → P (slots_taken (p ∷ ps))
    → P (p.slot ∷ slots_taken ps)
unfolding slots_of those
taken_first P p ps e h = rw e at h

-- what holds of the occupied slots behind the first place, and with its slot where that is occupied, holds of all
taken_more : (P : List Slot → Type 0) (p : Place) (ps : List Place) → (p.taken ≡ true → P (p.slot ∷ slots_taken ps)) → P (slots_taken ps)
    → P (slots_taken (p ∷ ps))
unfolding slots_of those
taken_more P p ps f h = go p.taken refl
  where
    go : (b : Bool) → p.taken ≡ b → P (slots_of (pick b (p ∷ those (λ p. p.taken) ps) (those (λ p. p.taken) ps)))
    go true e = f e
    go false e = h

-- a test holds at the slot of every occupied place
abbrev pub Each : (Slot → Bool) → List Place → Type 0
Each f ps = (k : ℕ) → (place_at ps k).taken ≡ true → f (place_at ps k).slot ≡ true

-- no two occupied places have slots with the same number in that field
abbrev pub Apart : (Slot → ℕ) → List Place → Type 0
Apart key ps = (i j : ℕ) → (place_at ps i).taken ≡ true → (place_at ps j).taken ≡ true → key (place_at ps i).slot ≡ key (place_at ps j).slot → i ≡ j

-- the test that two slots differ in that field
abbrev pub differ : (Slot → ℕ) → Slot → Slot → Bool
differ key s t = not (eqb (key s) (key t))

-- a test that holds at every occupied slot holds at each occupied place
pub each_found : (f : Slot → Bool) (ps : List Place) → every f (slots_taken ps) ≡ true → Each f ps
each_found f [] e k t = absurd (false≢true t)
each_found f (p ∷ ps) e zero t =
    every_head f p.slot (slots_taken ps) (taken_first (λ ss. every f ss ≡ true) p ps t e)
each_found f (p ∷ ps) e (suc k) t = each_found f ps (taken_rest (λ ss. every f ss ≡ true) (every_tail f) p ps e) k t

-- and the other way round
pub each_tested : (f : Slot → Bool) (ps : List Place) → Each f ps → every f (slots_taken ps) ≡ true
unfolding every those slots_of
each_tested f [] h = refl
each_tested f (p ∷ ps) h =
    let rest : every f (slots_taken ps) ≡ true = each_tested f ps (λ k. h (suc k)) in
    taken_more (λ ss. every f ss ≡ true) p ps (λ t. every_cons f p.slot (slots_taken ps) (h 0 t) rest) rest

-- an occupied first place has another number than any that follows
first_apart : (key : Slot → ℕ) (p : Place) (ps : List Place) → pairwise (differ key) (slots_taken (p ∷ ps)) ≡ true → (k : ℕ)
    → p.taken ≡ true → (place_at ps k).taken ≡ true → key p.slot ≡ key (place_at ps k).slot → ⊥
first_apart key p ps e k s t same =
    let others : every (differ key p.slot) (slots_taken ps) ≡ true =
    pairwise_head (differ key) p.slot (slots_taken ps) (taken_first (λ ss. pairwise (differ key) ss ≡ true) p ps s e) in
    eqb-false (key p.slot) (key (place_at ps k).slot) (not-true _ (each_found (differ key p.slot) ps others k t)) same

-- where the occupied slots differ pairwise in a field, the occupied places are apart
pub apart_found : (key : Slot → ℕ) (ps : List Place) → pairwise (differ key) (slots_taken ps) ≡ true → Apart key ps
apart_found key [] e i j s t same = absurd (false≢true s)
apart_found key (p ∷ ps) e zero zero s t same = refl
apart_found key (p ∷ ps) e zero (suc j) s t same = absurd (first_apart key p ps e j s t same)
apart_found key (p ∷ ps) e (suc i) zero s t same = absurd (first_apart key p ps e i t s (sym same))
apart_found key (p ∷ ps) e (suc i) (suc j) s t same =
    ap suc (apart_found key ps (taken_rest (λ ss. pairwise (differ key) ss ≡ true) (pairwise_tail (differ key)) p ps e) i j s t same)

-- places that are apart: each that follows an occupied first one differs from it
others_differ : (key : Slot → ℕ) (p : Place) (ps : List Place) → Apart key (p ∷ ps) → p.taken ≡ true → Each (differ key p.slot) ps
others_differ key p ps h s k t =
    rw (ne_eqb (key p.slot) (key (place_at ps k).slot) (λ same. let e : 0 ≡ suc k = h 0 (suc k) s t same in omega arith))

-- where the occupied places are apart in a field, the occupied slots differ pairwise
pub apart_tested : (key : Slot → ℕ) (ps : List Place) → Apart key ps → pairwise (differ key) (slots_taken ps) ≡ true
unfolding pairwise those slots_of
apart_tested key [] h = refl
apart_tested key (p ∷ ps) h =
    let rest : pairwise (differ key) (slots_taken ps) ≡ true =
    apart_tested key ps (λ i j s t same. let e : suc i ≡ suc j = h (suc i) (suc j) s t same in omega arith) in
    taken_more (λ ss. pairwise (differ key) ss ≡ true) p ps
    (λ t. pairwise_cons (differ key) p.slot (slots_taken ps) (each_tested (differ key p.slot) ps (others_differ key p ps h t)) rest) rest

-- the number at a place is a fresh one, given to one place alone, or the one that stood there before
abbrev pub Came : (Slot → ℕ) → ℕ → ℕ → List Place → List Place → ℕ → Type 0
Came key fresh w ps qs k =
    ((k ≡ w) × (key (place_at qs k).slot ≡ fresh)) ⊎ (((place_at ps k).taken ≡ true) × (key (place_at qs k).slot ≡ key (place_at ps k).slot))

-- occupied places that were apart are so with a number among them that none of them had
pub apart_after : (key : Slot → ℕ) (fresh w : ℕ) (ps qs : List Place) → ((k : ℕ) → (place_at qs k).taken ≡ true → Came key fresh w ps qs k)
    → ((k : ℕ) → (place_at ps k).taken ≡ true → key (place_at ps k).slot ≡ fresh → ⊥) → Apart key ps → Apart key qs
apart_after key fresh w ps qs came never apart i j s t same = go (came i s) (came j t)
  where
    go : Came key fresh w ps qs i → Came key fresh w ps qs j → i ≡ j
    go (inl a) (inl b) = a.0 ∙ sym b.0
    go (inl a) (inr b) = absurd (never j b.0 (sym b.1 ∙ sym same ∙ a.1))
    go (inr a) (inl b) = absurd (never i a.0 (sym a.1 ∙ same ∙ b.1))
    go (inr a) (inr b) = apart i j a.0 b.0 (sym a.1 ∙ same ∙ b.1)

-- two tests that agree at each place choose the same places
pub those_agree : (f g : Place → Bool) (ps : List Place) → ((k : ℕ) → f (place_at ps k) ≡ g (place_at ps k)) → those f ps ≡ those g ps
unfolding those
those_agree f g [] h = refl
those_agree f g (p ∷ ps) h = rw (h 0, those_agree f g ps (λ k. h (suc k)))
