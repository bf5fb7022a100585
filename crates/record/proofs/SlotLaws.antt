-- The laws of walking through the slots with the map: what one place more does to the place found and to the least end.
use mathlib.Core.Path.{◌≡◌, refl, sym, ◌∙◌}
use mathlib.Core.Bool.{Bool, true, false, ◌&&◌, and_assoc}
use mathlib.Core.List.{List, [], ◌∷◌}
use Prim.Native.Nat.{ℕ, ◌+◌, ◌/◌, ◌%◌, ◌<◌, ◌≤◌}
use native.Mathlib.Nat.{add-zero, zero-add}
use native.Mathlib.Numerals.{add-one}
use native.Mathlib.Omega.{arith}
use lib.Dec.{eqb, ltb}
use lib.ListN.{length, get_or, drop, drop_of_length-le}
use lib.Seq.{drop-cons}
use borrow.Author.Tests.{eqb-true, eqb-false, ltb-true, ne_eqb}
use Rattle.laws.specs.Choose.{pick}
use Rattle.laws.specs.Lists.{those, place_of}
use Rattle.laws.proofs.Lists.{place_agree}
use Rattle.laws.proofs.Tests.{and_right}
use Rattle.tag.specs.Written.{is_tag_text}
use Rattle.record.specs.Places.{Place, places_in, places, slots_of, is_live, live, smaller, least_from, least_end, is_of, matching}
use Rattle.record.specs.declared.Slot.{Slot}
use Rattle.record.specs.declared.Record.{Record}

-- a slot whose bit is the lowest of a map
abbrev pub placed : ℕ → Slot → Place
placed m s = record { taken = eqb (m % 2) 1; slot = s }

-- the places from number i on, with what is left of the map
unfoldable pub places_from : ℕ → ℕ → List Slot → List Place
places_from m i ss = places_in m (drop i ss)

-- the first of them, and the others
pub one_more : (m i : ℕ) (ss : List Slot) (d : Slot) → i < length ss
    → places_from m i ss ≡ placed m (get_or ss i d) ∷ places_from (m / 2) (i + 1) ss
unfolding places_from places_in
one_more m i ss d h = rw (add-one i, drop-cons ss i d h)

-- there are none past the last
pub no_more : (m i : ℕ) (ss : List Slot) → length ss ≤ i → places_from m i ss ≡ []
unfolding places_from places_in
no_more m i ss h = rw (drop_of_length-le ss h)

-- where the first of these places stands at which the test holds, counted from i
abbrev pub found_from : (Place → Bool) → ℕ → List Place → ℕ
found_from f i ps = i + place_of f ps

-- the test holds at the place reached
pub found_here : (f : Place → Bool) (i : ℕ) {b : Bool} {p : Place} {ps qs : List Place} → qs ≡ p ∷ ps → b ≡ f p → b ≡ true
    → found_from f i qs ≡ i
unfolding place_of
found_here f i w h e = rw (w, ← h, e) (add-zero i)

-- the test fails there
pub found_on : (f : Place → Bool) (i : ℕ) {b : Bool} {p : Place} {ps qs : List Place} → qs ≡ p ∷ ps → b ≡ f p → b ≡ false
    → found_from f i qs ≡ found_from f (i + 1) ps
unfolding place_of
found_on f i w h e = rw (w, ← h, e) (omega arith)

-- no place is left
pub found_none : (f : Place → Bool) (i : ℕ) {qs : List Place} → qs ≡ [] → found_from f i qs ≡ i
unfolding place_of
found_none f i w = rw w (add-zero i)

-- the test of a matching publication: it is live, of that package, and has the tag
abbrev pub matches : ℕ → ℕ → List ℕ → Place → Bool
matches clock event token p = is_of clock event p && is_tag_text token p.slot.tag

-- the search for it begins with all places
pub matching_start : (clock event : ℕ) (token : List ℕ) (r : Record)
    → matching clock event token r ≡ found_from (matches clock event token) 0 (places_from r.map 0 r.slots)
unfolding places_from matching places is_of
matching_start clock event token r =
    place_agree _ _ (λ p. sym (and_assoc (is_live clock p) (eqb p.slot.event event) (is_tag_text token p.slot.tag))) (places_in r.map r.slots)
    ∙ sym (zero-add _)

-- the least end of the live ones of these places and one found before, where 0 is none
unfoldable pub least_with : ℕ → ℕ → List Place → ℕ
least_with clock least ps =
    let ss = slots_of (those (is_live clock) ps) in pick (eqb least 0) (least_end ss) (least_from least ss)

-- the least end is found from all places, with none found before
pub least_start : (clock : ℕ) (r : Record) → least_end (live clock r) ≡ least_with clock 0 (places_from r.map 0 r.slots)
unfolding places_from least_with live places
least_start clock r = refl

-- with no place left it is the one found before
pub least_done : (clock least : ℕ) {qs : List Place} → qs ≡ [] → least_with clock least qs ≡ least
unfolding least_with least_end least_from those slots_of
least_done clock least w = rw w (go (eqb least 0) refl)
  where
    go : (b : Bool) → eqb least 0 ≡ b → pick b 0 least ≡ least
    go true e = sym (eqb-true least 0 e)
    go false e = refl

-- the smaller of two numbers above 0 is above 0
smaller_some : (a b : ℕ) → (a ≡ 0 → ⊥) → (b ≡ 0 → ⊥) → smaller a b ≡ 0 → ⊥
unfolding smaller
smaller_some a b f g = go (ltb a b)
  where
    go : (t : Bool) → pick t a b ≡ 0 → ⊥
    go true e = f e
    go false e = g e

-- a live publication has an end above 0
live_ends : (clock : ℕ) (p : Place) → is_live clock p ≡ true → p.slot.end ≡ 0 → ⊥
unfolding is_live
live_ends clock p e z =
    let h : clock < p.slot.end = ltb-true clock p.slot.end (and_right p.taken (ltb clock p.slot.end) e) in omega arith

-- one place more: a live one's end counts
pub least_on : (clock least e : ℕ) (l : Bool) {p : Place} {ps qs : List Place} → qs ≡ p ∷ ps → l ≡ is_live clock p
    → e ≡ pick l (pick (eqb least 0) p.slot.end (smaller least p.slot.end)) least
    → least_with clock least qs ≡ least_with clock e ps
unfolding least_with least_end least_from those slots_of
least_on clock least e l {p} {ps} v h w = rw (v, w) (go l h (eqb least 0) refl)
  where
    go : (l : Bool) → l ≡ is_live clock p → (b : Bool) → eqb least 0 ≡ b
        → least_with clock least (p ∷ ps) ≡ least_with clock (pick l (pick b p.slot.end (smaller least p.slot.end)) least) ps
    go false h b k = rw (← h)
    go true h true k = rw (← h, k, ne_eqb p.slot.end 0 (live_ends clock p (sym h)))
    go true h false k =
        rw (← h, k, ne_eqb (smaller least p.slot.end) 0 (smaller_some least p.slot.end (eqb-false least 0 k) (live_ends clock p (sym h))))
