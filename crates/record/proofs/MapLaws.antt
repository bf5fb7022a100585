-- The laws of the map: what it says of the lowest free place, of the number of occupied ones and of one place set or freed is what
-- the places say.
use mathlib.Core.Path.{◌≡◌, refl, sym, ◌∙◌, ap}
use mathlib.Core.Bool.{Bool, true, false, not}
use mathlib.Core.List.{List, [], ◌∷◌}
use Prim.Native.Nat.{ℕ, zero, suc, ◌+◌, ◌*◌, ◌-◌, ◌/◌, ◌%◌, ◌^◌, ◌<◌, ◌≤◌}
use native.Mathlib.Nat.{not-suc-le-zero, le_of_suc-le-suc, pow-succ', div-div-eq-div-mul, div-eq_of_lt, div-one}
use native.Mathlib.Omega.{arith}
use native.Mathlib.Decide.{dec_lt}
use lib.Dec.{eqb}
use lib.ListN.{length, set}
use borrow.Author.Tests.{eqb-true, eqb-false}
use Rattle.laws.specs.Choose.{pick}
use Rattle.laws.specs.Lists.{those, place_of, listed}
use Rattle.laws.proofs.Table.{agree}
use Rattle.record.specs.Map.{lowest_free_in, occupied_in, has_place, with_place, without_place}
use Rattle.record.specs.Places.{Place, places_in, map_of, lowest_free}
use Rattle.record.specs.declared.Slot.{Slot}
use Rattle.record.proofs.Places.{lowest_bit, other_bits}

-- two rules that give the same for each of the 256 maps and each of the eight places, which is computed, once
pub alike : (f g : ℕ → ℕ → ℕ) → listed (λ m. listed (f m) 0 8) 0 256 ≡ listed (λ m. listed (g m) 0 8) 0 256
    → (m k : ℕ) → m < 256 → k < 8 → f m k ≡ g m k
alike f g e m k h l = agree (f m) (g m) 8 (agree (λ m. listed (f m) 0 8) (λ m. listed (g m) 0 8) 256 e m h) k l

-- one place more at the front
abbrev more : Bool → ℕ → ℕ
more t m = pick t 1 0 + 2 * m

-- the lowest free of the places is the lowest that their map does not have
lowest : (ps : List Place) → lowest_free ps ≡ lowest_free_in (length ps) (map_of ps)
unfolding lowest_free place_of lowest_free_in map_of
lowest [] = refl
lowest (p ∷ ps) = rw (lowest_bit p.taken (map_of ps), other_bits p.taken (map_of ps)) (go p.taken (lowest ps))
  where
    go : (t : Bool) → place_of (λ p. not p.taken) ps ≡ lowest_free_in (length ps) (map_of ps)
        → pick (not t) 0 (suc (place_of (λ p. not p.taken) ps)) ≡ pick t (suc (lowest_free_in (length ps) (map_of ps))) 0
    go true e = ap suc e
    go false e = refl

-- as many places are occupied as their map has
count : (ps : List Place) → length (those (λ p. p.taken) ps) ≡ occupied_in (length ps) (map_of ps)
unfolding those occupied_in map_of
count [] = refl
count (p ∷ ps) = rw (other_bits p.taken (map_of ps), ← count ps) (go p.taken)
  where
    go : (t : Bool) → length (pick t (p ∷ those (λ p. p.taken) ps) (those (λ p. p.taken) ps))
        ≡ more t (map_of ps) % 2 + length (those (λ p. p.taken) ps)
    go true = omega arith
    go false = omega arith

-- the map of n places is below the n-th power of 2
small : (ps : List Place) → map_of ps < 2 ^ length ps
unfolding map_of
small [] = omega arith
small (p ∷ ps) = rw (pow-succ' 2 (length ps)) (go p.taken (small ps))
  where
    go : (t : Bool) → map_of ps < 2 ^ length ps → more t (map_of ps) < 2 * 2 ^ length ps
    go true h = omega arith
    go false h = omega arith

-- the places that a map gives to some slots have that map
back : (m : ℕ) (ss : List Slot) → m < 2 ^ length ss → map_of (places_in m ss) ≡ m
unfolding places_in map_of
back m [] h = omega arith
back m (s ∷ ss) h =
    let l : m < 2 * 2 ^ length ss = rw (pow-succ' 2 (length ss)) at h in
    rw (back (m / 2) ss (omega arith)) (go (eqb (m % 2) 1) refl)
  where
    go : (b : Bool) → eqb (m % 2) 1 ≡ b → more b (m / 2) ≡ m
    go true e = let o : m % 2 ≡ 1 = eqb-true (m % 2) 1 e in omega arith
    go false e = let o : m % 2 ≡ 1 → ⊥ = eqb-false (m % 2) 1 e in omega arith

-- a later place of a map is a place of its other bits
has_later : (t : Bool) (m k : ℕ) → has_place (more t m) (suc k) ≡ has_place m k
unfolding has_place
has_later t m k = rw (pow-succ' 2 k, ← div-div-eq-div-mul (more t m) 2 (2 ^ k), other_bits t m)

-- a map that has a place is at least the power of 2 for it
has_size : (m k : ℕ) → has_place m k ≡ true → 2 ^ k ≤ m
unfolding has_place
has_size m k e = go (dec_lt m (2 ^ k))
  where
    go : Dec (m < 2 ^ k) → 2 ^ k ≤ m
    go (yes h) =
        let z : m / 2 ^ k % 2 ≡ 1 = eqb-true (m / 2 ^ k % 2) 1 e in
        let n : m / 2 ^ k ≡ 0 = div-eq_of_lt h in
        absurd (omega arith)
    go (no h) = omega arith

-- the map with a place set or freed
abbrev put_place : Bool → ℕ → ℕ → ℕ
put_place b m k = pick b (with_place m k) (without_place m k)

-- the first place set or freed
put_first : (b t : Bool) (m : ℕ) → put_place b (more t m) 0 ≡ more b m
unfolding with_place without_place has_place
put_first b t m = rw (div-one (more t m), lowest_bit t m) (go b t)
  where
    go : (b t : Bool) → pick b (pick t (more t m) (more t m + 1)) (pick t (more t m - 1) (more t m)) ≡ more b m
    go true true = refl
    go true false = omega arith
    go false true = omega arith
    go false false = refl

-- a later place set or freed
put_later : (b t : Bool) (m k : ℕ) → put_place b (more t m) (suc k) ≡ more t (put_place b m k)
unfolding with_place without_place
put_later b t m k = rw (has_later t m k, pow-succ' 2 k) (go b (has_place m k) refl)
  where
    go : (b h : Bool) → has_place m k ≡ h
        → pick b (pick h (more t m) (more t m + 2 * 2 ^ k)) (pick h (more t m - 2 * 2 ^ k) (more t m))
        ≡ more t (pick b (pick h m (m + 2 ^ k)) (pick h (m - 2 ^ k) m))
    go true true e = refl
    go true false e = omega arith
    go false true e = let h : 2 ^ k ≤ m = has_size m k e in omega arith
    go false false e = refl

-- a place put in is that place of the map set or freed
put_in : (ps : List Place) (k : ℕ) (p : Place) → k < length ps → map_of (set ps k p) ≡ put_place p.taken (map_of ps) k
unfolding map_of
put_in [] k p h = absurd (not-suc-le-zero h)
put_in (q ∷ ps) zero p h = sym (put_first p.taken q.taken (map_of ps))
put_in (q ∷ ps) (suc k) p h = rw (put_in ps k p (le_of_suc-le-suc h)) (sym (put_later p.taken q.taken (map_of ps) k))

-- the map of eight places has these for it
module _ (ps : List Place) (e : length ps ≡ 8) where
  -- its lowest free place is theirs
  pub map_lowest : lowest_free ps ≡ lowest_free_in 8 (map_of ps)
  map_lowest = rw e at (lowest ps)

  -- it has as many places as are occupied
  pub map_count : length (those (λ p. p.taken) ps) ≡ occupied_in 8 (map_of ps)
  map_count = rw e at (count ps)

  -- it is below 256
  pub map_below : map_of ps < 256
  map_below = rw e at (small ps)

  -- with an occupied place put in it has that place
  pub map_with : (k : ℕ) (p : Place) → p.taken ≡ true → k < 8 → map_of (set ps k p) ≡ with_place (map_of ps) k
  map_with k p t h = put_in ps k p (omega arith) ∙ rw t

  -- with a free place put in it does not
  pub map_without : (k : ℕ) (p : Place) → p.taken ≡ false → k < 8 → map_of (set ps k p) ≡ without_place (map_of ps) k
  map_without k p t h = put_in ps k p (omega arith) ∙ rw t

-- the places that a map gives to eight slots have that map
pub map_back : (m : ℕ) (ss : List Slot) → length ss ≡ 8 → m < 256 → map_of (places_in m ss) ≡ m
map_back m ss e h = back m ss (rw e h)
