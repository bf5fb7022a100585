-- The record and its part of the store after a success, from the map and the slots that the freeing left.
use mathlib.Core.Path.{◌≡◌, refl, sym, ◌∙◌, ap}
use mathlib.Core.Bool.{Bool, true, false, ◌&&◌, and-false}
use mathlib.Core.Logic.{◌⊎◌, inl, inr}
use mathlib.Core.List.{List, [], ◌∷◌}
use Prim.Native.Nat.{ℕ, zero, suc, ◌+◌, ◌*◌, ◌/◌, ◌%◌, ◌<◌, ◌≤◌}
use native.Mathlib.Omega.{arith}
use native.Mathlib.Nat.{le_refl, not-suc-le-zero, le_of_suc-le-suc}
use lib.Dec.{eqb, ltb}
use lib.ListN.{length, get_or, set}
use lib.Seq.{set_out}
use borrow.Author.Tests.{eq-eqb, ne_eqb, lt-ltb, le-ltb, ltb-true}
use Rattle.std.specs.Prelude.{Option, Some, None, is_some}
use Rattle.laws.specs.Choose.{pick, below}
use Rattle.laws.proofs.Some.{below_some}
use Rattle.laws.specs.Lists.{part, put_at}
use Rattle.laws.proofs.Tests.{and_left, and_right}
use Rattle.laws.proofs.Parts.{part_length, part_at_lem, put_length, put_part}
use Rattle.record.specs.Map.{lowest_free_in, with_place, without_place}
use Rattle.record.specs.Places.{Place, zero_slot, free_place, places, places_in, map_of, slots_of}
use Rattle.success.specs.Store.{room_at, part_at, part_of, with_part, cleared}
use Rattle.success.specs.After.{success_number, freed_at, freed_places, is_match, has_body, written_slot, written, ended_places, written_places, places_after, record_after, with_body, part_after}
use Rattle.record.specs.declared.Slot.{Slot}
use Rattle.record.specs.declared.Record.{Record}
use Rattle.success.specs.declared.Success.{Success}
use Rattle.record.proofs.MapLaws.{map_lowest, map_with, map_without}
use Rattle.success.proofs.StoreLaws.{slots_of_length, freed_places_length, part_after_length}
use Rattle.laws.proofs.Puts.{put_same, put_again}
use Rattle.success.proofs.AfterLaws.{places_after_lem}

-- the lowest free of k places is at most k
pub lowest_most : (k m : ℕ) → lowest_free_in k m ≤ k
unfolding lowest_free_in
lowest_most zero m = le_refl 0
lowest_most (suc k) m = go (eqb (m % 2) 1) (lowest_most k (m / 2))
  where
    go : (b : Bool) → lowest_free_in k (m / 2) ≤ k → pick b (suc (lowest_free_in k (m / 2))) 0 ≤ suc k
    go true h = omega arith
    go false h = omega arith

-- the slots of places of which one is replaced
slots_set : (ps : List Place) (k : ℕ) (p : Place) → slots_of (set ps k p) ≡ set (slots_of ps) k p.slot
unfolding slots_of
slots_set [] k p = refl
slots_set (q ∷ ps) zero p = refl
slots_set (q ∷ ps) (suc k) p = ap (λ (ss : List Slot). q.slot ∷ ss) (slots_set ps k p)

-- the slot of a place
slots_at : (ps : List Place) (k : ℕ) (d : Slot) → k < length ps → get_or (slots_of ps) k d ≡ (get_or ps k free_place).slot
unfolding slots_of
slots_at [] k d h = absurd (not-suc-le-zero h)
slots_at (p ∷ ps) zero d h = refl
slots_at (p ∷ ps) (suc k) d h = slots_at ps k d (le_of_suc-le-suc h)

-- the record with one tag more spent, the latest clock, and these slots
abbrev pub made_of : Success → Record → ℕ → List Slot → Record
made_of x r m ss =
    record { used = r.used; address = r.address; start = r.start; spent = success_number r; clock = x.clock; map = m; slots = ss }

-- it is the record after the success where these are the places after it
made_after : (x : Success) (r : Record) (ps : List Place) → places_after x r ≡ ps → made_of x r (map_of ps) (slots_of ps) ≡ record_after x r
unfolding record_after
made_after x r ps e = rw e

-- the slot that is found for writing
pub slot_found : (x : Success) (r : Record) (live : ℕ) {k : Option ℕ} → length r.slots ≡ 8 → live ≡ map_of (freed_at x.clock r)
    → k ≡ below 8 (pick (is_match x) x.slot (lowest_free_in 8 live)) → k ≡ below 8 (written_slot x r)
unfolding written_slot freed_places
slot_found x r live eight m e = rw (map_lowest (freed_places x r) (freed_places_length x r ∙ eight), ← m) e

-- and where that is one of eight, it is
pub slot_there : (x : Success) (r : Record) (live : ℕ) {k : Option ℕ} → length r.slots ≡ 8 → live ≡ map_of (freed_at x.clock r)
    → k ≡ below 8 (pick (is_match x) x.slot (lowest_free_in 8 live)) → written_slot x r < 8 → k ≡ Some (written_slot x r)
slot_there x r live eight m e h = slot_found x r live eight m e ∙ below_some 8 (written_slot x r) h

-- a slot is told where it is below 8
pub told_slot : (k : ℕ) → is_some (below 8 k) ≡ ltb k 8
unfolding below
told_slot k = go (ltb k 8)
  where
    go : (b : Bool) → is_some (pick b (Some k) None) ≡ b
    go true = refl
    go false = refl

module _ (x : Success) (r : Record) (live : ℕ) (kept : List Slot) (eight : length kept ≡ 8)
    (is_live : live ≡ map_of (freed_at x.clock r)) (is-kept : kept ≡ slots_of (freed_at x.clock r)) (n : Record) where
  -- there are eight places
  eight_places : length (freed_places x r) ≡ 8
  unfolding freed_places
  eight_places = sym (slots_of_length (freed_at x.clock r)) ∙ ap length (sym is-kept) ∙ eight

  -- nothing is changed but what is freed
  unchanged : n ≡ made_of x r live kept → places_after x r ≡ freed_places x r → n ≡ record_after x r
  unfolding freed_places
  unchanged o e = o ∙ rw (is_live, is-kept) (made_after x r (freed_places x r) e)

  -- granted 0, and no slot was matched
  pub ended_none : n ≡ made_of x r live kept → x.granted ≡ 0 → 8 ≤ x.slot → n ≡ record_after x r
  unfolding places_after ended_places is_match
  ended_none o g h = unchanged o (rw (eq-eqb x.granted 0 g, le-ltb x.slot 8 h))

  -- granted 0, and the slot that was matched is freed
  pub ended_one : (m : ℕ) (s : Slot) → n ≡ made_of x r m (set kept x.slot s) → x.granted ≡ 0 → x.slot < 8
      → m ≡ without_place live x.slot → s ≡ zero_slot → n ≡ record_after x r
  unfolding places_after ended_places is_match freed_places
  ended_one m s o g h e f =
      o ∙ rw (e, f, is_live, is-kept, ← map_without (freed_places x r) eight_places x.slot free_place refl h, ← slots_set (freed_places x r) x.slot free_place)
      (made_after x r (set (freed_places x r) x.slot free_place) (rw (eq-eqb x.granted 0 g, lt-ltb x.slot 8 h)))

  -- no slot is free
  pub begun_none : n ≡ made_of x r live kept → 0 < x.granted → 8 ≤ written_slot x r → n ≡ record_after x r
  unfolding places_after written_places
  begun_none o g h =
      let out : length (freed_places x r) ≤ written_slot x r = omega (arith, eight_places) in
      unchanged o (rw (ne_eqb x.granted 0 (omega arith)) (set_out (freed_places x r) (written_slot x r) _ out))

  -- the slot is written
  pub begun_one : (k m : ℕ) (d s : Slot) → n ≡ made_of x r m (set kept k s) → 0 < x.granted
      → k ≡ written_slot x r → k < 8 → m ≡ with_place live k → s ≡ written x r (get_or kept k d) → n ≡ record_after x r
  unfolding places_after written_places freed_places
  begun_one k m d s o g e h f t =
      let new : Place = record { taken = true; slot = s } in
      let old : get_or kept k d ≡ (get_or (freed_places x r) k free_place).slot =
      ap (λ (ss : List Slot). get_or ss k d) is-kept ∙ slots_at (freed_places x r) k d (omega (arith, eight_places)) in
      o ∙ rw (f, is_live, is-kept, ← map_with (freed_places x r) eight_places k new refl h, ← slots_set (freed_places x r) k new)
      (made_after x r (set (freed_places x r) k new) (rw (ne_eqb x.granted 0 (omega arith), ← e, t, old)))

-- no body that is to be live was given: the store stays as it is
pub nothing_put : (x : Success) (r : Record) (body s : List ℕ) (i : ℕ) → (x.length ≡ 0) ⊎ ((x.length ≡ 0 → ⊥) × (x.granted ≡ 0)) → 4096 * i + 4096 ≤ length s
    → s ≡ with_part i (with_body x r body (part_of i s)) s
unfolding with_part with_body has_body part_of part_at
nothing_put x r body s i e h = rw (none e) (sym (put_same s (4096 * i) (4096 * i + 4096) (omega arith) h))
  where
    none : (x.length ≡ 0) ⊎ ((x.length ≡ 0 → ⊥) × (x.granted ≡ 0)) → (ltb 0 x.length && ltb 0 x.granted) ≡ false
    none (inl e) = rw e
    none (inr e) = rw e.1 (and-false (ltb 0 x.length))

-- a body that is to be live was put into its room
pub body_put : (x : Success) (r : Record) (body s t : List ℕ) (i k : ℕ) → 0 < x.length → 0 < x.granted → k ≡ written_slot x r
    → t ≡ with_part i (put_at (part_of i s) (room_at k) body) s → t ≡ with_part i (with_body x r body (part_of i s)) s
unfolding with_body has_body
body_put x r body s t i k l g e f = rw (lt-ltb 0 x.length l, lt-ltb 0 x.granted g, ← e) f

-- a part has 4,096 bytes
pub part_whole : (s : List ℕ) (i : ℕ) → 4096 * i + 4096 ≤ length s → length (part_of i s) ≡ 4096
unfolding part_of part_at
part_whole s i h = part_length s (4096 * i) (4096 * i + 4096) (omega arith) h ∙ omega arith

-- also with the body put in
given_whole : (x : Success) (r : Record) (body bs : List ℕ) → length body ≤ 512 → (0 < x.length → 0 < x.granted → written_slot x r < 8)
    → length bs ≡ 4096 → length (with_body x r body bs) ≡ 4096
unfolding with_body has_body room_at
given_whole x r body bs l f e = go (ltb 0 x.length && ltb 0 x.granted) refl
  where
    go : (b : Bool) → (ltb 0 x.length && ltb 0 x.granted) ≡ b → length (pick b (put_at bs (512 * written_slot x r) body) bs) ≡ 4096
    go true t =
        let k : written_slot x r < 8 = f (ltb-true _ _ (and_left (ltb 0 x.length) _ t)) (ltb-true _ _ (and_right (ltb 0 x.length) _ t)) in
        put_length bs (512 * written_slot x r) body (omega arith) ∙ e
    go false t = e

-- a part that was put in is the part
part_back : (s p : List ℕ) (i : ℕ) → length p ≡ 4096 → 4096 * i + 4096 ≤ length s → part_of i (with_part i p s) ≡ p
unfolding part_of with_part part_at
part_back s p i e h =
    ap (λ (n : ℕ). part (put_at s (4096 * i) p) (4096 * i) (4096 * i + n)) (sym e) ∙ put_part s (4096 * i) p (omega arith)

-- byte j of the 512 of slot k, in the part
pub byte_of : (s : List ℕ) (i k j : ℕ) → k < 8 → j < 512 → get_or (part_of i s) (512 * k + j) 0 ≡ get_or s (4096 * i + 512 * k + j) 0
unfolding part_of part_at
byte_of s i k j h l =
    let place : 4096 * i + (512 * k + j) ≡ 4096 * i + 512 * k + j = omega arith in
    part_at_lem s (4096 * i) (4096 * i + 4096) (512 * k + j) 0 (omega arith) ∙ rw place

-- and in a store with that part put in
pub byte_in : (s p : List ℕ) (i k j : ℕ) → length p ≡ 4096 → 4096 * i + 4096 ≤ length s → k < 8 → j < 512
    → get_or (with_part i p s) (4096 * i + 512 * k + j) 0 ≡ get_or p (512 * k + j) 0
byte_in s p i k j e h l m = rw (← byte_of (with_part i p s) i k j l m, part_back s p i e h)

-- a part put in where another was
part_again : (s p q : List ℕ) (i : ℕ) → length p ≡ 4096 → length q ≡ 4096 → 4096 * i + 4096 ≤ length s
    → with_part i q (with_part i p s) ≡ with_part i q s
unfolding with_part part_at
part_again s p q i e f h = put_again s (4096 * i) p q (e ∙ sym f) (omega arith)

-- the part after a success: the body put in, and everything outside the live bodies cleared
pub part_made : (x : Success) (r n : Record) (body s t u : List ℕ) (i : ℕ) → length r.slots ≡ 8 → 4096 * i + 4096 ≤ length s → length body ≤ 512
    → (0 < x.length → 0 < x.granted → written_slot x r < 8) → t ≡ with_part i (with_body x r body (part_of i s)) s → n ≡ record_after x r
    → u ≡ with_part i (cleared (places_in n.map n.slots) (part_of i t)) t → u ≡ with_part i (part_after x r body (part_of i s)) s
unfolding places part_after
part_made x r n body s t u i eight h l f e o v =
    let given : List ℕ = with_body x r body (part_of i s) in
    let size : length given ≡ 4096 = given_whole x r body (part_of i s) l f (part_whole s i h) in
    v ∙ rw (e, o, part_back s given i size h, places_after_lem x r)
    (part_again s given (cleared (places_after x r) given) i size (part_after_length x r body (part_of i s) eight) h)
