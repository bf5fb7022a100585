-- Parts of lists and tests over lists, behind names.
use Rattle.std.specs.Prelude.{ℕ, zero, suc, ◌+◌, ◌-◌, Bool, true, false, ◌&&◌, ◌||◌, List, [], ◌∷◌, ◌++◌, eqb, length, get_or, take, drop}
use Rattle.laws.specs.Choose.{pick}

-- the byte at a position; 256, which is no byte, past the end
unfoldable pub byte_at : List ℕ → ℕ → ℕ
byte_at s i = get_or s i 256

-- what stands from position a up to position e
unfoldable pub part : List ℕ → ℕ → ℕ → List ℕ
part s a e = take (e - a) (drop a s)

-- the list with bs put in at position i, and what stood there gone
unfoldable pub put_at : List ℕ → ℕ → List ℕ → List ℕ
put_at s i bs = take i s ++ bs ++ drop (i + length bs) s

-- the test holds at some element
unfoldable pub any : {A : Type 0} → (A → Bool) → List A → Bool
any f [] = false
any f (x ∷ xs) = let r = any f xs in f x || r

-- the test holds at every element
unfoldable pub every : {A : Type 0} → (A → Bool) → List A → Bool
every f [] = true
every f (x ∷ xs) = let r = every f xs in f x && r

-- the elements at which the test holds, in their order
unfoldable pub those : {A : Type 0} → (A → Bool) → List A → List A
those f [] = []
those f (x ∷ xs) = let r = those f xs in pick (f x) (x ∷ r) r

-- the test holds at every element and each that follows it
unfoldable pub pairwise : {A : Type 0} → (A → A → Bool) → List A → Bool
pairwise f [] = true
pairwise f (x ∷ xs) = let r = pairwise f xs in every (f x) xs && r

-- where the first element stands at which the test holds; the length where there is none
unfoldable pub place_of : {A : Type 0} → (A → Bool) → List A → ℕ
place_of f [] = 0
place_of f (x ∷ xs) = let r = suc (place_of f xs) in pick (f x) 0 r

-- the two lists are the same, byte by byte
unfoldable pub same : List ℕ → List ℕ → Bool
same [] [] = true
same [] (y ∷ ys) = false
same (x ∷ xs) [] = false
same (x ∷ xs) (y ∷ ys) = let r = same xs ys in pick (eqb x y) r false

-- the list has no element
unfoldable pub empty : {A : Type 0} → List A → Bool
empty [] = true
empty (x ∷ xs) = false

-- what a rule gives at n numbers, from i on
abbrev pub listed : {A : Type 0} → (ℕ → A) → ℕ → ℕ → List A
listed f i zero = []
listed f i (suc n) = f i ∷ listed f (suc i) n
