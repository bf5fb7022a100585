-- Laws of lists that name nothing of a table: where the first element stands that passes a test, copies, and zeros put among zeros.
use mathlib.Core.Path.{◌≡◌, refl, sym, ◌∙◌, ap}
use mathlib.Core.Bool.{Bool, true, false, ◌||◌}
use mathlib.Core.List.{List, [], ◌∷◌, ◌++◌, map}
use Prim.Native.Nat.{ℕ, zero, suc, ◌+◌, ◌<◌, ◌≤◌}
use native.Mathlib.Nat.{not-suc-le-zero, le_of_suc-le-suc, zero-add}
use native.Mathlib.Omega.{arith}
use lib.Dec.{ltb}
use lib.ListN.{length, get_or, set, replicate, length-replicate, get_or-replicate}
use lib.Seq.{ext_get_or}
use borrow.Author.Tests.{ltb-true, ltb-false, lt-ltb, le-ltb}
use Rattle.laws.specs.Choose.{pick}
use Rattle.laws.specs.Lists.{any, every, place_of, part, put_at}
use Rattle.laws.proofs.Tests.{every_head, every_tail, every_cons}
use Rattle.laws.proofs.Parts.{part_length, part_at_lem}
use Rattle.laws.proofs.Puts.{put_same}
use Rattle.laws.proofs.Bools.{or_together}

-- a test that always fails holds nowhere
pub none_any : {A : Type 0} (xs : List A) → any (λ x. false) xs ≡ false
unfolding any
none_any [] = refl
none_any (x ∷ xs) = none_any xs

-- an element of two lists passes a test: one of the first, or one of the second
pub any_append : {A : Type 0} (f : A → Bool) (xs ys : List A) → any f (xs ++ ys) ≡ (any f xs || any f ys)
unfolding any
any_append f [] ys = refl
any_append f (x ∷ xs) ys = ap (λ (b : Bool). f x || b) (any_append f xs ys) ∙ or_together (f x) (any f xs) (any f ys)

-- a place that is looked for lies within the list or at its end
pub place_within : {A : Type 0} (f : A → Bool) (xs : List A) → place_of f xs ≤ length xs
unfolding place_of
place_within f [] = omega arith
place_within f (x ∷ xs) = go (f x) (place_within f xs)
  where
    go : (b : Bool) → place_of f xs ≤ length xs → pick b 0 (suc (place_of f xs)) ≤ suc (length xs)
    go true h = omega arith
    go false h = omega arith

-- both numbers one more
below_more : (a b : ℕ) → ltb (suc a) (suc b) ≡ ltb a b
below_more a b = go (ltb a b) refl
  where
    go : (c : Bool) → ltb a b ≡ c → ltb (suc a) (suc b) ≡ c
    go true e = lt-ltb (suc a) (suc b) (omega (arith, ltb-true a b e))
    go false e = le-ltb (suc a) (suc b) (omega (arith, ltb-false a b e))

-- a place in the list is found exactly where an element passes
pub place_found : {A : Type 0} (f : A → Bool) (xs : List A) → ltb (place_of f xs) (length xs) ≡ any f xs
unfolding place_of any
place_found f [] = refl
place_found f (x ∷ xs) = go (f x) (place_found f xs)
  where
    go : (b : Bool) → ltb (place_of f xs) (length xs) ≡ any f xs → ltb (pick b 0 (suc (place_of f xs))) (suc (length xs)) ≡ (b || any f xs)
    go true deep = lt-ltb 0 (suc (length xs)) (omega arith)
    go false deep = below_more (place_of f xs) (length xs) ∙ deep

-- and lies in it there
pub place_below : {A : Type 0} (f : A → Bool) (xs : List A) → any f xs ≡ true → place_of f xs < length xs
place_below f xs e = ltb-true (place_of f xs) (length xs) (place_found f xs ∙ e)

-- it is found as before where the element replaced passes as the new one does
pub place_kept : {A : Type 0} (f : A → Bool) (xs : List A) (i : ℕ) (y d : A) → f y ≡ f (get_or xs i d) → place_of f (set xs i y) ≡ place_of f xs
unfolding place_of
place_kept f [] i y d e = refl
place_kept f (x ∷ xs) zero y d e = rw e
place_kept f (x ∷ xs) (suc i) y d e = rw (place_kept f xs i y d e)

-- among copies of an element it is the first, or there is none
pub place_copies : {A : Type 0} (f : A → Bool) (n : ℕ) (x : A) → place_of f (replicate n x) ≡ pick (f x) 0 n
unfolding place_of
place_copies f n x = go (f x) refl n
  where
    go : (b : Bool) → f x ≡ b → (n : ℕ) → place_of f (replicate n x) ≡ pick b 0 n
    go true e zero = refl
    go true e (suc n) = rw e
    go false e zero = refl
    go false e (suc n) = rw e (ap suc (go false e n))

-- among the images of a list with others behind them: where it stands in the list, or behind
pub place_in : {A B : Type 0} (f : B → Bool) (g w : A → Bool) (h : A → B) → ((x : A) → w x ≡ true → f (h x) ≡ g x)
    → (xs : List A) (rest : List B) → every w xs ≡ true
    → place_of f (map h xs ++ rest) ≡ pick (any g xs) (place_of g xs) (length xs + place_of f rest)
unfolding place_of any
place_in f g w h alike [] rest e = sym (zero-add _)
place_in f g w h alike (x ∷ xs) rest e =
    rw (alike x (every_head w x xs e)) (go (g x) (any g xs) (place_in f g w h alike xs rest (every_tail w x xs e)))
  where
    go : (b c : Bool) → place_of f (map h xs ++ rest) ≡ pick c (place_of g xs) (length xs + place_of f rest)
        → pick b 0 (suc (place_of f (map h xs ++ rest))) ≡ pick (b || c) (pick b 0 (suc (place_of g xs))) (suc (length xs) + place_of f rest)
    go true c deep = refl
    go false true deep = ap suc deep
    go false false deep = omega arith

-- an image of a list, with others behind them
pub at_among : {A B : Type 0} (f : A → B) (xs : List A) (rest : List B) (i : ℕ) (d : A) (z : B) → i < length xs
    → get_or (map f xs ++ rest) i z ≡ f (get_or xs i d)
at_among f [] rest i d z h = absurd (not-suc-le-zero h)
at_among f (x ∷ xs) rest zero d z h = refl
at_among f (x ∷ xs) rest (suc i) d z h = at_among f xs rest i d z (le_of_suc-le-suc h)

-- the images of a list with one more at its end
pub map_end : {A B : Type 0} (f : A → B) (xs : List A) (x : A) (rest : List B) → map f (xs ++ (x ∷ [])) ++ rest ≡ map f xs ++ (f x ∷ rest)
map_end f [] x rest = refl
map_end f (y ∷ xs) x rest = ap (λ l. f y ∷ l) (map_end f xs x rest)

-- a test that holds at every element and at one more at the end
pub every_end : {A : Type 0} (f : A → Bool) (xs : List A) (x : A) → every f xs ≡ true → f x ≡ true → every f (xs ++ (x ∷ [])) ≡ true
every_end f [] x e h = every_cons f x [] h e
every_end f (y ∷ xs) x e h = every_cons f y (xs ++ (x ∷ [])) (every_head f y xs e) (every_end f xs x (every_tail f y xs e) h)

-- a part of zeros is zeros
pub zeros_part : (m i n : ℕ) → i + n ≤ m → part (replicate m 0) i (i + n) ≡ replicate n 0
zeros_part m i n h = ext_get_or 0 _ _ (size ∙ sym (length-replicate {A = ℕ} n 0)) bytes
  where
    size : length (part (replicate m 0) i (i + n)) ≡ n
    size = part_length (replicate m 0) i (i + n) (omega arith) (omega (arith, length-replicate {A = ℕ} m 0)) ∙ omega arith

    bytes : (k : ℕ) → k < length (part (replicate m 0) i (i + n)) → get_or (part (replicate m 0) i (i + n)) k 0 ≡ get_or (replicate n 0) k 0
    bytes k j =
        let near : k < n = omega (arith, size) in
        part_at_lem (replicate m 0) i (i + n) k 0 (omega arith) ∙ get_or-replicate m (i + k) 0 0 (omega arith) ∙ sym (get_or-replicate n k 0 0 near)

-- zeros put among zeros
pub zeros_among : (m i n : ℕ) → i + n ≤ m → put_at (replicate m 0) i (replicate n 0) ≡ replicate m 0
zeros_among m i n h =
    ap (put_at (replicate m 0) i) (sym (zeros_part m i n h))
    ∙ put_same (replicate m 0) i (i + n) (omega arith) (omega (arith, length-replicate {A = ℕ} m 0))

-- a test of the images of a list is a test of what they are images of
pub every_map : {A B : Type 0} (h : A → B) (f : B → Bool) (xs : List A) → every f (map h xs) ≡ every (λ x. f (h x)) xs
unfolding every
every_map h f [] = refl
every_map h f (x ∷ xs) = rw (every_map h f xs)

-- two tests that agree find the same place
pub place_agree : {A : Type 0} (f g : A → Bool) → ((x : A) → f x ≡ g x) → (xs : List A) → place_of f xs ≡ place_of g xs
unfolding place_of
place_agree f g e [] = refl
place_agree f g e (x ∷ xs) = rw (e x, place_agree f g e xs)
