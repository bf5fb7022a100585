-- What stands at each place after a success: what was written there, or what stood there before, freed where its end has come.
use mathlib.Core.Path.{◌≡◌, refl, sym, ◌∙◌, ap}
use mathlib.Core.Bool.{Bool, true, false, ◌&&◌, false≢true}
use mathlib.Core.List.{List}
use mathlib.Core.Logic.{◌⊎◌, inl, inr, ⊎_elim}
use Prim.Native.Nat.{ℕ, ◌<◌, ◌≤◌}
use native.Mathlib.Decide.{ℕ_discrete, dec_lt}
use native.Mathlib.Omega.{arith}
use lib.Dec.{eqb, ltb, leb}
use lib.ListN.{length, set, get_or-map}
use lib.Seq.{get_or-set_same, get_or-set_other, set_out}
use borrow.Author.Tests.{ltb-true, leb-false, eqb-false, eq-eqb, ne_eqb, lt-ltb, lt-leb, le-leb}
use Rattle.laws.specs.Choose.{pick}
use Rattle.laws.proofs.Tests.{and_left, and_right, and_both, and_fails}
use Rattle.record.specs.Places.{Place, free_place, places, is_live}
use Rattle.success.specs.After.{freed, freed_at, freed_places, is_match, written_slot, written, ended_places, written_places, places_after}
use Rattle.record.specs.declared.Record.{Record}
use Rattle.success.specs.declared.Success.{Success}
use Rattle.record.proofs.Places.{place_at}

-- of places with one replaced, each is as before or is that one
set_at : (ps : List Place) (i : ℕ) (q : Place) (k : ℕ) → (place_at (set ps i q) k ≡ place_at ps k) ⊎ ((k ≡ i) × (place_at (set ps i q) k ≡ q))
set_at ps i q k = go (ℕ_discrete k i) (dec_lt i (length ps))
  where
    go : Dec (k ≡ i) → Dec (i < length ps) → (place_at (set ps i q) k ≡ place_at ps k) ⊎ ((k ≡ i) × (place_at (set ps i q) k ≡ q))
    go (yes e) (yes h) = inr (e, rw e (get_or-set_same ps i q free_place h))
    go (yes e) (no h) = inl (rw (set_out ps i q (omega arith)))
    go (no n) d = inl (get_or-set_other ps i k q free_place n)

-- a slot that still runs is not freed
pub live_stays : (clock : ℕ) (p : Place) → is_live clock p ≡ true → freed clock p ≡ p
unfolding is_live freed
live_stays clock p e =
    let h : clock < p.slot.end = ltb-true clock p.slot.end (and_right p.taken (ltb clock p.slot.end) e) in
    rw (and_left p.taken (ltb clock p.slot.end) e, lt-leb p.slot.end clock h)

-- a slot whose end has come is freed
pub run_out : (clock : ℕ) (p : Place) → p.taken ≡ true → p.slot.end ≤ clock → freed clock p ≡ free_place
unfolding freed
run_out clock p t h = rw (t, le-leb p.slot.end clock h)

-- with a test that fails, no other holds
pub and_none : (b : Bool) → (b && false) ≡ false
and_none true = refl
and_none false = refl

-- a place that is free, or whose end has not come, stays as it is
pub place_stays : (clock : ℕ) (p : Place) → (p.taken ≡ false) ⊎ (clock < p.slot.end) → freed clock p ≡ p
unfolding freed
place_stays clock p (inl t) = rw t
place_stays clock p (inr h) = rw (lt-leb p.slot.end clock h, and_none p.taken)

-- a slot that is not freed still runs
taken_stays : (clock : ℕ) (p : Place) → (freed clock p).taken ≡ true → is_live clock p ≡ true
unfolding is_live freed
taken_stays clock p t = go (p.taken && leb p.slot.end clock) refl t
  where
    go : (b : Bool) → (p.taken && leb p.slot.end clock) ≡ b → (pick b free_place p).taken ≡ true → (p.taken && ltb clock p.slot.end) ≡ true
    go true e t = absurd (false≢true t)
    go false e t =
        and_both p.taken (ltb clock p.slot.end) t
        (lt-ltb clock p.slot.end (leb-false p.slot.end clock (and_fails p.taken (leb p.slot.end clock) e t)))

-- the places of which some were freed, one by one
pub freed_at_lem : (x : Success) (r : Record) (k : ℕ) → place_at (freed_places x r) k ≡ freed x.clock (place_at (places r) k)
unfolding freed_places freed_at freed
freed_at_lem x r k = get_or-map (freed x.clock) (places r) k free_place

module _ (x : Success) (r : Record) where
  -- where time is granted, the slot is occupied, with what is written to it
  pub written_place : 0 < x.granted → written_slot x r < length (freed_places x r) → place_at (places_after x r) (written_slot x r)
      ≡ record { taken = true; slot = written x r (freed x.clock (place_at (places r) (written_slot x r))).slot }
  unfolding places_after written_places
  written_place g h =
      rw (ne_eqb x.granted 0 (omega arith), ← freed_at_lem x r (written_slot x r))
      (get_or-set_same (freed_places x r) (written_slot x r) _ free_place h)

  -- where none is, a matched slot is freed
  pub ended_place : x.granted ≡ 0 → is_match x ≡ true → x.slot < length (freed_places x r) → place_at (places_after x r) (written_slot x r) ≡ free_place
  unfolding places_after ended_places written_slot
  ended_place g m h = rw (eq-eqb x.granted 0 g, m) (get_or-set_same (freed_places x r) x.slot free_place free_place h)

  -- every other place is as it was, freed where its end has come
  pub other_place : (k : ℕ) → (k ≡ written_slot x r → ⊥) ⊎ ((x.granted ≡ 0) × (is_match x ≡ false))
      → place_at (places_after x r) k ≡ freed x.clock (place_at (places r) k)
  unfolding places_after ended_places written_places written_slot
  other_place k (inr (g, m)) = rw (eq-eqb x.granted 0 g, m) (freed_at_lem x r k)
  other_place k (inl n) = go (eqb x.granted 0) (is_match x) refl ∙ freed_at_lem x r k
    where
      go : (b m : Bool) → is_match x ≡ m
          → place_at (pick b (pick (is_match x) (set (freed_places x r) x.slot free_place) (freed_places x r)) (written_places x r)) k
          ≡ place_at (freed_places x r) k
      go true true e = rw e (get_or-set_other (freed_places x r) x.slot k free_place free_place (rw e at n))
      go true false e = rw e
      go false m e = get_or-set_other (freed_places x r) (written_slot x r) k _ free_place n

-- what was written stands at the place
pub record IsNew (x : Success) (r : Record) (k : ℕ) : Type 0 where
  pub here : k ≡ written_slot x r
  pub lasts : 0 < x.granted
  pub holds : (place_at (places_after x r) k).slot ≡ written x r (place_at (freed_places x r) k).slot

-- what stood at the place before still does, and runs
pub record IsOld (x : Success) (r : Record) (k : ℕ) : Type 0 where
  pub runs : is_live x.clock (place_at (places r) k) ≡ true
  pub stays : place_at (places_after x r) k ≡ place_at (places r) k

module _ (x : Success) (r : Record) (k : ℕ) (t : (place_at (places_after x r) k).taken ≡ true) where
  -- a place that is as it was after the freeing
  untouched : place_at (places_after x r) k ≡ place_at (freed_places x r) k → IsOld x r k
  untouched e =
      let same : place_at (places_after x r) k ≡ freed x.clock (place_at (places r) k) = e ∙ freed_at_lem x r k in
      let live : is_live x.clock (place_at (places r) k) ≡ true = taken_stays x.clock (place_at (places r) k) (rw same at t) in
      record { runs = live; stays = same ∙ live_stays x.clock (place_at (places r) k) live }

  -- where one place was replaced, a place is as it was before the success, or is that one
  replaced : (i : ℕ) (q : Place) → places_after x r ≡ set (freed_places x r) i q → IsOld x r k ⊎ ((k ≡ i) × (place_at (places_after x r) k ≡ q))
  replaced i q e = go (set_at (freed_places x r) i q k)
    where
      go : (place_at (set (freed_places x r) i q) k ≡ place_at (freed_places x r) k) ⊎ ((k ≡ i) × (place_at (set (freed_places x r) i q) k ≡ q))
          → IsOld x r k ⊎ ((k ≡ i) × (place_at (places_after x r) k ≡ q))
      go (inl s) = inl (untouched (rw e s))
      go (inr h) = inr (h.0, rw e h.1)

  -- the place that was written
  new_there : (eqb x.granted 0 ≡ false) → k ≡ written_slot x r
      → place_at (places_after x r) k ≡ record { taken = true; slot = written x r (place_at (freed_places x r) (written_slot x r)).slot } → IsNew x r k
  new_there e h p =
      let some : x.granted ≡ 0 → ⊥ = eqb-false x.granted 0 e in
      record {
        here = h;
        lasts = omega arith;
        holds = ap (λ q. q.slot) p ∙ ap (λ (n : ℕ). written x r (place_at (freed_places x r) n).slot) (sym h);
      }

  -- what stands there after a success
  pub stands : IsNew x r k ⊎ IsOld x r k
  unfolding places_after ended_places written_places
  stands = go (eqb x.granted 0) refl (is_match x) refl
    where
      ended : IsOld x r k ⊎ ((k ≡ x.slot) × (place_at (places_after x r) k ≡ free_place)) → IsNew x r k ⊎ IsOld x r k
      ended (inl o) = inr o
      ended (inr h) = absurd (false≢true (sym (ap (λ q. q.taken) h.1) ∙ t))

      go : (b : Bool) → eqb x.granted 0 ≡ b → (m : Bool) → is_match x ≡ m → IsNew x r k ⊎ IsOld x r k
      go true e true f = ended (replaced x.slot free_place (rw (e, f)))
      go true e false f = inr (untouched (rw (e, f)))
      go false e m f = ⊎_elim inr (λ h. inl (new_there e h.0 h.1)) (replaced (written_slot x r) _ (rw e))
