-- The laws of the tests: what they say where they hold, and how they pass through `set`, `replicate` and `those`.
use mathlib.Core.Path.{◌≡◌, refl, sym, ◌∙◌, ap₂}
use mathlib.Core.Bool.{Bool, true, false, ◌&&◌, ◌||◌, not, true≢false, false≢true}
use mathlib.Core.List.{List, [], ◌∷◌}
use Prim.Native.Nat.{ℕ, zero, suc, ◌<◌, ◌≤◌}
use native.Mathlib.Nat.{not-suc-le-zero, le_of_suc-le-suc}
use lib.Dec.{eqb}
use lib.ListN.{length, get_or, set, replicate}
use borrow.Author.Tests.{eqb-true, eq-eqb, not-true, not-false}
use Rattle.laws.specs.Choose.{pick}
use Rattle.laws.specs.Lists.{every, those, pairwise, place_of, same}

-- where two tests hold together, the first holds
pub and_left : (a b : Bool) → (a && b) ≡ true → a ≡ true
and_left true b e = refl
and_left false b e = e

-- where two tests hold together, the second holds
pub and_right : (a b : Bool) → (a && b) ≡ true → b ≡ true
and_right true b e = e
and_right false b e = absurd (false≢true e)

-- two tests that hold hold together
pub and_both : (a b : Bool) → a ≡ true → b ≡ true → (a && b) ≡ true
and_both a b e f = rw (e, f)

-- where neither of two tests holds, the first does not
pub or_left : (a b : Bool) → (a || b) ≡ false → a ≡ false
or_left true b e = e
or_left false b e = refl

-- where neither of two tests holds, the second does not
pub or_right : (a b : Bool) → (a || b) ≡ false → b ≡ false
or_right true b e = absurd (true≢false e)
or_right false b e = e

-- a test that holds where another does not hold with it: the other fails
pub and_fails : (a b : Bool) → (a && b) ≡ false → a ≡ true → b ≡ false
and_fails true b e h = e
and_fails false b e h = absurd (false≢true h)

-- a test fails where its answer, turned round, holds
pub turned_fails : {answer test : Bool} → answer ≡ test → not answer ≡ true → test ≡ false
turned_fails {answer} e h = sym e ∙ not-true answer h

-- and holds where its answer, turned round, fails
pub turned_holds : {answer test : Bool} → answer ≡ test → not answer ≡ false → test ≡ true
turned_holds {answer} e h = sym e ∙ not-false answer h

-- the same lists are equal
pub same_equal : (s t : List ℕ) → same s t ≡ true → s ≡ t
unfolding same
same_equal [] [] e = refl
same_equal [] (y ∷ ys) e = absurd (false≢true e)
same_equal (x ∷ xs) [] e = absurd (false≢true e)
same_equal (x ∷ xs) (y ∷ ys) e = go (eqb x y) refl e (same_equal xs ys)
  where
    go : (b : Bool) → eqb x y ≡ b → pick b (same xs ys) false ≡ true → (same xs ys ≡ true → xs ≡ ys) → x ∷ xs ≡ y ∷ ys
    go true h e rest = ap₂ ◌∷◌ (eqb-true x y h) (rest e)
    go false h e rest = absurd (false≢true e)

-- a list is the same as itself
pub same_self : (s : List ℕ) → same s s ≡ true
unfolding same
same_self [] = refl
same_self (x ∷ xs) = rw (eq-eqb x x refl) (same_self xs)

-- the comparison does not ask which list stands first
pub same_turned : (s t : List ℕ) → same s t ≡ same t s
same_turned s t = go (same s t) refl (same t s) refl
  where
    go : (a : Bool) → same s t ≡ a → (b : Bool) → same t s ≡ b → same s t ≡ same t s
    go true h b k = h ∙ sym (rw (same_equal s t h) (same_self t))
    go false h true k = absurd (false≢true (sym h ∙ rw (same_equal t s k) (same_self s)))
    go false h false k = h ∙ sym k

module _ {A : Type 0} where
  -- a test that holds at every element holds at the first
  pub every_head : (f : A → Bool) (x : A) (xs : List A) → every f (x ∷ xs) ≡ true → f x ≡ true
  unfolding every
  every_head f x xs e = and_left (f x) (every f xs) e

  -- a test that holds at every element holds at those behind the first
  pub every_tail : (f : A → Bool) (x : A) (xs : List A) → every f (x ∷ xs) ≡ true → every f xs ≡ true
  unfolding every
  every_tail f x xs e = and_right (f x) (every f xs) e

  -- a test that holds at one element and at every element behind it
  pub every_cons : (f : A → Bool) (x : A) (xs : List A) → f x ≡ true → every f xs ≡ true → every f (x ∷ xs) ≡ true
  unfolding every
  every_cons f x xs h e = and_both (f x) (every f xs) h e

  -- a test that holds at every element holds at the one of each place
  pub every_at : (f : A → Bool) (xs : List A) (i : ℕ) (d : A) → every f xs ≡ true → i < length xs → f (get_or xs i d) ≡ true
  every_at f [] i d e h = absurd (not-suc-le-zero h)
  every_at f (x ∷ xs) zero d e h = every_head f x xs e
  every_at f (x ∷ xs) (suc i) d e h = every_at f xs i d (every_tail f x xs e) (le_of_suc-le-suc h)

  -- one element may be replaced by another at which the test holds
  pub every_set : (f : A → Bool) (xs : List A) (i : ℕ) (y : A) → every f xs ≡ true → f y ≡ true → every f (set xs i y) ≡ true
  every_set f [] i y e h = e
  every_set f (x ∷ xs) zero y e h = every_cons f y xs h (every_tail f x xs e)
  every_set f (x ∷ xs) (suc i) y e h =
      every_cons f x (set xs i y) (every_head f x xs e) (every_set f xs i y (every_tail f x xs e) h)

  -- a test that holds at an element holds at every copy of it
  pub every_copy : (f : A → Bool) (n : ℕ) (x : A) → f x ≡ true → every f (replicate n x) ≡ true
  unfolding every
  every_copy f zero x h = refl
  every_copy f (suc n) x h = every_cons f x (replicate n x) h (every_copy f n x h)

  -- a test that follows from another one holds at every element at which that does
  pub every_follows : (f g : A → Bool) (xs : List A) → ((x : A) → f x ≡ true → g x ≡ true) → every f xs ≡ true
      → every g xs ≡ true
  unfolding every
  every_follows f g [] k e = refl
  every_follows f g (x ∷ xs) k e =
      every_cons g x xs (k x (every_head f x xs e)) (every_follows f g xs k (every_tail f x xs e))

  -- of the elements chosen by a test, what follows from that test and from one that holds at every element
  pub every_those : (f g u : A → Bool) (xs : List A) → ((x : A) → f x ≡ true → u x ≡ true → g x ≡ true)
      → every f xs ≡ true → every g (those u xs) ≡ true
  unfolding those every
  every_those f g u [] k e = refl
  every_those f g u (x ∷ xs) k e = go (u x) refl (every_those f g u xs k (every_tail f x xs e))
    where
      go : (b : Bool) → u x ≡ b → every g (those u xs) ≡ true → every g (pick b (x ∷ those u xs) (those u xs)) ≡ true
      go true h r = every_cons g x (those u xs) (k x (every_head f x xs e) h) r
      go false h r = r

  -- the elements chosen behind the first are among those chosen
  those_tail : (g u : A → Bool) (x : A) (xs : List A) → every g (those u (x ∷ xs)) ≡ true → every g (those u xs) ≡ true
  unfolding those
  those_tail g u x xs e = go (u x) e
    where
      go : (b : Bool) → every g (pick b (x ∷ those u xs) (those u xs)) ≡ true → every g (those u xs) ≡ true
      go true e = every_tail g x (those u xs) e
      go false e = e

  -- of the elements chosen, one may be replaced by another at which the test holds
  pub every_those_set : (g u : A → Bool) (xs : List A) (i : ℕ) (y : A) → every g (those u xs) ≡ true → g y ≡ true
      → every g (those u (set xs i y)) ≡ true
  unfolding those
  every_those_set g u [] i y e h = e
  every_those_set g u (x ∷ xs) zero y e h = go (u y)
    where
      r : every g (those u xs) ≡ true
      r = those_tail g u x xs e

      go : (b : Bool) → every g (pick b (y ∷ those u xs) (those u xs)) ≡ true
      go true = every_cons g y (those u xs) h r
      go false = r
  every_those_set g u (x ∷ xs) (suc i) y e h = go (u x) e (every_those_set g u xs i y (those_tail g u x xs e) h)
    where
      go : (b : Bool) → every g (pick b (x ∷ those u xs) (those u xs)) ≡ true → every g (those u (set xs i y)) ≡ true
          → every g (pick b (x ∷ those u (set xs i y)) (those u (set xs i y))) ≡ true
      go true e r = every_cons g x (those u (set xs i y)) (every_head g x (those u xs) e) r
      go false e r = r

  -- where a test holds at each element and those that follow it, it holds so behind the first
  pub pairwise_tail : (f : A → A → Bool) (x : A) (xs : List A) → pairwise f (x ∷ xs) ≡ true → pairwise f xs ≡ true
  unfolding pairwise
  pairwise_tail f x xs e = and_right (every (f x) xs) (pairwise f xs) e

  -- and it holds at the first and each of those
  pub pairwise_head : (f : A → A → Bool) (x : A) (xs : List A) → pairwise f (x ∷ xs) ≡ true → every (f x) xs ≡ true
  unfolding pairwise
  pairwise_head f x xs e = and_left (every (f x) xs) (pairwise f xs) e

  -- an element in front of others, with each of which the test holds
  pub pairwise_cons : (f : A → A → Bool) (x : A) (xs : List A) → every (f x) xs ≡ true → pairwise f xs ≡ true
      → pairwise f (x ∷ xs) ≡ true
  unfolding pairwise
  pairwise_cons f x xs h e = and_both (every (f x) xs) (pairwise f xs) h e

  those_pairwise : (f : A → A → Bool) (u : A → Bool) (x : A) (xs : List A) → pairwise f (those u (x ∷ xs)) ≡ true
      → pairwise f (those u xs) ≡ true
  unfolding those
  those_pairwise f u x xs e = go (u x) e
    where
      go : (b : Bool) → pairwise f (pick b (x ∷ those u xs) (those u xs)) ≡ true → pairwise f (those u xs) ≡ true
      go true e = pairwise_tail f x (those u xs) e
      go false e = e

  -- of the elements chosen, one may be replaced by another that the test tells from each of them, whichever stands first
  pub pairwise_those_set : (f : A → A → Bool) (u : A → Bool) (xs : List A) (i : ℕ) (y : A) → pairwise f (those u xs) ≡ true
      → every (f y) (those u xs) ≡ true → every (λ x. f x y) (those u xs) ≡ true → pairwise f (those u (set xs i y)) ≡ true
  unfolding those
  pairwise_those_set f u [] i y e h k = e
  pairwise_those_set f u (x ∷ xs) zero y e h k = go (u y)
    where
      r : pairwise f (those u xs) ≡ true
      r = those_pairwise f u x xs e

      go : (b : Bool) → pairwise f (pick b (y ∷ those u xs) (those u xs)) ≡ true
      go true = pairwise_cons f y (those u xs) (those_tail (f y) u x xs h) r
      go false = r
  pairwise_those_set f u (x ∷ xs) (suc i) y e h k =
      go (u x) e k
      (pairwise_those_set f u xs i y (those_pairwise f u x xs e) (those_tail (f y) u x xs h) (those_tail (λ x. f x y) u x xs k))
    where
      go : (b : Bool) → pairwise f (pick b (x ∷ those u xs) (those u xs)) ≡ true
          → every (λ x. f x y) (pick b (x ∷ those u xs) (those u xs)) ≡ true → pairwise f (those u (set xs i y)) ≡ true
          → pairwise f (pick b (x ∷ those u (set xs i y)) (those u (set xs i y))) ≡ true
      go true e k r =
          pairwise_cons f x (those u (set xs i y))
          (every_those_set (f x) u xs i y (pairwise_head f x (those u xs) e) (every_head (λ x. f x y) x (those u xs) k)) r
      go false e k r = r

  -- no copy of an element is chosen where the test fails at it
  pub those_copy : (u : A → Bool) (n : ℕ) (x : A) → u x ≡ false → those u (replicate n x) ≡ []
  unfolding those
  those_copy u zero x h = refl
  those_copy u (suc n) x h = rw h (those_copy u n x h)

  -- where no place is found, the test fails at every element
  pub place_none : (f : A → Bool) (xs : List A) → length xs ≤ place_of f xs → every (λ x. not (f x)) xs ≡ true
  unfolding place_of every
  place_none f [] h = refl
  place_none f (x ∷ xs) h = go (f x) refl h (place_none f xs)
    where
      go : (b : Bool) → f x ≡ b → suc (length xs) ≤ pick b 0 (suc (place_of f xs))
          → (length xs ≤ place_of f xs → every (λ x. not (f x)) xs ≡ true) → every (λ x. not (f x)) (x ∷ xs) ≡ true
      go true e h r = absurd (not-suc-le-zero h)
      go false e h r = every_cons (λ x. not (f x)) x xs (rw e) (r (le_of_suc-le-suc h))

  -- the test holds at the place that is found
  pub place_holds : (f : A → Bool) (xs : List A) (d : A) → place_of f xs < length xs → f (get_or xs (place_of f xs) d) ≡ true
  unfolding place_of
  place_holds f [] d h = absurd (not-suc-le-zero h)
  place_holds f (x ∷ xs) d h = go (f x) refl h (place_holds f xs d)
    where
      go : (b : Bool) → f x ≡ b → pick b 0 (suc (place_of f xs)) < suc (length xs)
          → (place_of f xs < length xs → f (get_or xs (place_of f xs) d) ≡ true)
          → f (get_or (x ∷ xs) (pick b 0 (suc (place_of f xs))) d) ≡ true
      go true e h r = e
      go false e h r = r (le_of_suc-le-suc h)
