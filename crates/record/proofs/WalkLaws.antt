-- The laws of a question about a list that a loop walks: something is asked of the first element, where that counts, and then the
-- question of the rest. So are the occupied slots of a record walked.
use mathlib.Core.Path.{◌≡◌, refl, ◌∙◌, ap}
use mathlib.Core.Bool.{Bool, true, false, ◌&&◌, ◌||◌, not}
use mathlib.Core.List.{List, [], ◌∷◌}
use Prim.Native.Nat.{ℕ, ◌+◌, ◌-◌, ◌/◌, ◌%◌, ◌<◌, ◌≤◌}
use native.Mathlib.Numerals.{add-one}
use lib.Dec.{eqb}
use lib.ListN.{length, get_or, take, drop, drop_of_length-le, length-drop}
use lib.Seq.{drop-cons, take_all}
use native.Mathlib.Omega.{arith}
use borrow.Author.Tests.{eq-eqb, eqb-true}
use Rattle.laws.specs.Choose.{pick}
use Rattle.laws.specs.Lists.{every, pairwise, those}
use Rattle.record.specs.Places.{Place, places_in, slots_of}
use Rattle.record.specs.declared.Slot.{Slot}
use Rattle.record.proofs.Places.{slots_taken}

-- four tests in another order
four : (a b c d : Bool) → ((a && b) && (c && d)) ≡ ((a && c) && (b && d))
four true true c d = refl
four true false true d = refl
four true false false d = refl
four false b c d = refl

-- what is asked where two numbers are the same holds where they are not, or it does
free_or : (a b : ℕ) (t : Bool) → (a ≡ b → t ≡ true) → (not (eqb a b) || t) ≡ true
free_or a b t e = go (eqb a b) refl
  where
    go : (u : Bool) → eqb a b ≡ u → (not u || t) ≡ true
    go true h = e (eqb-true a b h)
    go false h = refl

module _ {A : Type 0} where
  -- one turn, whatever the question is
  turn : (g : List A → Bool) (u t : Bool) (x : A) (l rest : List A) → l ≡ pick u (x ∷ rest) rest → g (x ∷ rest) ≡ (t && g rest) → {b : Bool}
      → (not u || t) ≡ b → g l ≡ (b && g rest)
  turn g true t x l rest e h k = ap g e ∙ rw (← k) h
  turn g false t x l rest e h k = ap g e ∙ rw (← k)

  module _ (u : Bool) (x : A) (l rest : List A) (first : l ≡ pick u (x ∷ rest) rest) where
    -- does a test hold at every element: it is asked of the first
    pub every_turn : (f : A → Bool) {b : Bool} → (not u || f x) ≡ b → every f l ≡ (b && every f rest)
    unfolding every
    every_turn f k = turn (every f) u (f x) x l rest first refl k

    -- does a test hold at every two elements: it is asked of the first with each other
    pub pairwise_turn : (f : A → A → Bool) {b : Bool} → (not u || every (f x) rest) ≡ b → pairwise f l ≡ (b && pairwise f rest)
    unfolding pairwise
    pairwise_turn f k = turn (pairwise f) u (every (f x) rest) x l rest first refl k

  -- where every element counts, the one at the place that is reached is asked
  pub every_on : (f : A → Bool) (s : List A) (i : ℕ) (d : A) → i < length s → {b : Bool} → f (get_or s i d) ≡ b
      → every f (drop i s) ≡ (b && every f (drop (i + 1) s))
  every_on f s i d h k =
      every_turn true (get_or s i d) (drop i s) (drop (i + 1) s) (rw (add-one i) (drop-cons s i d h)) f k

  -- and past the end nothing is asked
  pub every_end : (f : A → Bool) (s : List A) (i : ℕ) → length s ≤ i → every f (drop i s) ≡ true
  unfolding every
  every_end f s i h = rw (drop_of_length-le s h)

  -- two tests that are asked together hold everywhere exactly if each does
  pub every_both : (f g : A → Bool) (xs : List A) → every (λ x. f x && g x) xs ≡ (every f xs && every g xs)
  unfolding every
  every_both f g [] = refl
  every_both f g (x ∷ xs) = rw (every_both f g xs) (four (f x) (g x) (every f xs) (every g xs))

  -- and so pairwise
  pub pairwise_both : (f g : A → A → Bool) (xs : List A) → pairwise (λ x y. f x y && g x y) xs ≡ (pairwise f xs && pairwise g xs)
  unfolding pairwise
  pairwise_both f g [] = refl
  pairwise_both f g (x ∷ xs) =
      rw (every_both (f x) (g x) xs, pairwise_both f g xs) (four (every (f x) xs) (every (g x) xs) (pairwise f xs) (pairwise g xs))

-- the occupied ones of some slots, the lowest bit of the map for the first
abbrev pub slots_in : ℕ → List Slot → List Slot
slots_in m ss = slots_taken (places_in m ss)

-- the first place's slot is one of them where it is occupied
slots_first : (p : Place) (ps : List Place) → slots_taken (p ∷ ps) ≡ pick p.taken (p.slot ∷ slots_taken ps) (slots_taken ps)
unfolding those slots_of
slots_first p ps = go p.taken
  where
    go : (b : Bool) → slots_of (pick b (p ∷ those (λ p. p.taken) ps) (those (λ p. p.taken) ps)) ≡ pick b (p.slot ∷ slots_taken ps) (slots_taken ps)
    go true = refl
    go false = refl

module _ (ss : List Slot) (d : Slot) (m i : ℕ) (h : i < length ss) where
  -- from place i on
  slots_from : slots_in m (drop i ss)
      ≡ pick (eqb (m % 2) 1) (get_or ss i d ∷ slots_in (m / 2) (drop (i + 1) ss)) (slots_in (m / 2) (drop (i + 1) ss))
  unfolding places_in
  slots_from = rw (add-one i, drop-cons ss i d h) (slots_first _ _)

  -- is every occupied slot so: where the one at place i is occupied and so, or not occupied, it is asked of those behind it
  pub each_slot : (f : Slot → Bool) → (m % 2 ≡ 1 → f (get_or ss i d) ≡ true)
      → every f (slots_in m (drop i ss)) ≡ every f (slots_in (m / 2) (drop (i + 1) ss))
  each_slot f e = every_turn (eqb (m % 2) 1) (get_or ss i d) _ _ slots_from f (free_or (m % 2) 1 (f (get_or ss i d)) e)

  -- and where it is occupied and not so, the answer is no
  pub no_slot : (f : Slot → Bool) → m % 2 ≡ 1 → f (get_or ss i d) ≡ false → every f (slots_in m (drop i ss)) ≡ false
  no_slot f o e = every_turn (eqb (m % 2) 1) (get_or ss i d) _ _ slots_from f {b = false} (rw (eq-eqb (m % 2) 1 o, e))

  -- what stands behind place i
  behind : take (length ss - (i + 1)) (drop (i + 1) ss) ≡ drop (i + 1) ss
  behind =
      let rest : length (drop (i + 1) ss) ≤ length ss - (i + 1) = omega (arith, length-drop (i + 1) ss) in
      take_all _ (drop (i + 1) ss) rest

  -- are the occupied slots so pairwise: the one at place i is asked with each that follows
  pub pair_of_slots : (f : Slot → Slot → Bool)
      → (m % 2 ≡ 1 → every (f (get_or ss i d)) (slots_in (m / 2) (take (length ss - (i + 1)) (drop (i + 1) ss))) ≡ true)
      → pairwise f (slots_in m (drop i ss)) ≡ pairwise f (slots_in (m / 2) (drop (i + 1) ss))
  pair_of_slots f e = pairwise_turn (eqb (m % 2) 1) (get_or ss i d) _ _ slots_from f (free_or (m % 2) 1 _ (λ o. rw behind at (e o)))

  pub no_pair : (f : Slot → Slot → Bool) → m % 2 ≡ 1
      → every (f (get_or ss i d)) (slots_in (m / 2) (take (length ss - (i + 1)) (drop (i + 1) ss))) ≡ false → pairwise f (slots_in m (drop i ss)) ≡ false
  no_pair f o e =
      let n : every (f (get_or ss i d)) (slots_in (m / 2) (drop (i + 1) ss)) ≡ false = rw behind at e in
      pairwise_turn (eqb (m % 2) 1) (get_or ss i d) _ _ slots_from f {b = false} (rw (eq-eqb (m % 2) 1 o, n))

-- past the last place no slot is occupied
pub slots_end : (ss : List Slot) (m i : ℕ) → length ss ≤ i → slots_in m (drop i ss) ≡ []
unfolding places_in those slots_of
slots_end ss m i h = rw (drop_of_length-le ss h)
