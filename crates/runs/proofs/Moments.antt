-- The moments of a history: none of an empty one, and of a longer one the first exchange and the moments of the others. So what holds
-- after every front of the inputs, of what comes back next, holds at every moment.
use mathlib.Core.Path.{◌≡◌, refl, ap, subst}
use mathlib.Core.Bool.{Bool, true, false, true≢false}
use mathlib.Core.List.{List, [], ◌∷◌, ◌++◌, map}
use Prim.Native.Nat.{ℕ}
use Rattle.laws.specs.Choose.{pick}
use Rattle.laws.specs.Lists.{those, empty}
use Rattle.record.specs.declared.Record.{Record}
use Rattle.publish.specs.Step.{own_after, part_afterwards}
use Rattle.table.specs.Handle.{Input}
use Rattle.table.specs.Run.{Exchange}
use Rattle.runs.specs.Reach.{Moment}
use Rattle.runs.specs.Alone.{case_at, answered, beginning, alone_from}

-- the first of some exchanges
abbrev first_or : Exchange → List Exchange → Exchange
first_or z [] = z
first_or z (y ∷ ys) = y

-- and those behind it
abbrev others : List Exchange → List Exchange
others [] = []
others (y ∷ ys) = ys

-- an empty history has no moment
pub no_moment : Moment [] → ⊥
unfolding empty
no_moment m = go m.before m.is
  where
    go : (before : List Exchange) → [] ≡ before ++ (m.now ∷ m.later) → ⊥
    go [] e = true≢false (ap empty e)
    go (y ∷ before) e = true≢false (ap empty e)

-- what holds of the first exchange, and at each moment of the others with the first before it, holds at each moment
pub each_moment : (Q : List Exchange → Exchange → Type 0) (x : Exchange) (xs : List Exchange) → Q [] x → ((m : Moment xs) → Q (x ∷ m.before) m.now)
    → (m : Moment (x ∷ xs)) → Q m.before m.now
each_moment Q x xs first rest m = go m.before m.is
  where
    go : (before : List Exchange) → x ∷ xs ≡ before ++ (m.now ∷ m.later) → Q before m.now
    go [] e = subst (Q []) (ap (first_or x) e) first
    go (y ∷ before) e =
        subst (λ (z : Exchange). Q (z ∷ before) m.now) (ap (first_or x) e)
        (rest (record { before = before; now = m.now; later = m.later; is = ap others e }))

-- an exchange that a test chose passes it
pub chosen_passes : (f : Exchange → Bool) (xs : List Exchange) (m : Moment (those f xs)) → f m.now ≡ true
unfolding those
chosen_passes f [] m = absurd (no_moment m)
chosen_passes f (x ∷ xs) m = go (f x) refl (chosen_passes f xs) m
  where
    go : (b : Bool) → f x ≡ b → ((m : Moment (those f xs)) → f m.now ≡ true) → (m : Moment (pick b (x ∷ those f xs) (those f xs))) → f m.now ≡ true
    go true e deep m = each_moment (λ before now. f now ≡ true) x (those f xs) e deep m
    go false e deep m = deep m

-- what holds after every front of some inputs to an address alone, of what comes back next, holds at each moment of its history
pub each_front : (Q : List Exchange → Exchange → Type 0) (r : Record) (bs : List ℕ)
    → ((front : List Input) (x : Input) → Q (alone_from r bs front).exchanges (answered x (case_at true (alone_from r bs front).own x)))
    → (xs : List Input) (m : Moment (alone_from r bs xs).exchanges) → Q m.before m.now
unfolding alone_from beginning
each_front Q r bs holds [] m = absurd (no_moment m)
each_front Q r bs holds (x ∷ xs) m =
    each_moment Q (answered x (case_at true r x)) (alone_from _ _ xs).exchanges (holds [] x)
    (each_front (λ before now. Q (answered x (case_at true r x) ∷ before) now) _ _ (λ front y. holds (x ∷ front) y) xs) m

-- each of its inputs comes back with its answer
inputs_back : (r : Record) (bs : List ℕ) (xs : List Input) → map (λ x. x.input) (alone_from r bs xs).exchanges ≡ xs
unfolding alone_from beginning answered
inputs_back r bs [] = refl
inputs_back r bs (x ∷ xs) = ap (λ l. x ∷ l) (inputs_back (own_after (case_at true r x)) (part_afterwards (case_at true r x) bs) xs)

-- so what comes back at a moment follows from the inputs before it
pub each_next : (r : Record) (bs : List ℕ) (xs : List Input) (m : Moment (alone_from r bs xs).exchanges)
    → m.now ≡ answered m.now.input (case_at true (alone_from r bs (map (λ x. x.input) m.before)).own m.now.input)
unfolding answered
each_next r bs xs m =
    each_front
    (λ before now. now ≡ answered now.input (case_at true (alone_from r bs (map (λ x. x.input) before)).own now.input))
    r bs (λ front x. rw (inputs_back r bs front)) xs m
