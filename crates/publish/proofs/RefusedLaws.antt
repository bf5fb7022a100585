-- The laws of what a list of refusals comes to: where none applies, what is said of its rows; and of two lists in a row, which one decides.
use mathlib.Core.Path.{◌≡◌, refl, sym, ◌∙◌, ap}
use mathlib.Core.Bool.{Bool, true, false, true≢false, false≢true}
use mathlib.Core.List.{List, [], ◌∷◌, ◌++◌}
use Prim.Native.Nat.{ℕ, zero, suc}
use lib.ListN.{get_or}
use Rattle.laws.specs.Choose.{pick}
use Rattle.laws.specs.First.{Row, first_of, tests}
use Rattle.publish.specs.Refusal.{refusal_in, is_refusal, or_else}
use Rattle.response.specs.declared.Outcome.{Outcome}
use Rattle.std.specs.Prelude.{Result, Ok, Err, ⊤}

-- the refusal, and otherwise another outcome: that is the first of the rows that applies
pub else_first : (rows : List (Row Outcome)) (other : Outcome) → or_else (refusal_in rows) other ≡ first_of rows other
unfolding refusal_in or_else first_of
else_first [] other = refl
else_first (r ∷ rs) other = go r.applies (else_first rs other)
  where
    go : (b : Bool) → or_else (refusal_in rs) other ≡ first_of rs other
        → or_else (pick b (Err r.gives) (refusal_in rs)) other ≡ pick b r.gives (first_of rs other)
    go true e = refl
    go false e = e

-- where none applies, the test of each row fails
none_fails : (rows : List (Row Outcome)) → is_refusal (refusal_in rows) ≡ false → (k : ℕ) → get_or (tests rows) k false ≡ false
unfolding refusal_in is_refusal
none_fails [] e k = refl
none_fails (r ∷ rs) e k = go r.applies refl e (none_fails rs) k
  where
    go : (b : Bool) → r.applies ≡ b → is_refusal (pick b (Err r.gives) (refusal_in rs)) ≡ false
        → (is_refusal (refusal_in rs) ≡ false → (k : ℕ) → get_or (tests rs) k false ≡ false)
        → (k : ℕ) → get_or (tests (r ∷ rs)) k false ≡ false
    go true t e rest k = absurd (true≢false e)
    go false t e rest zero = t
    go false t e rest (suc k) = rest e k

-- a refusal by rows in front of others is the refusal of all
front_refuses : (rows more : List (Row Outcome)) → is_refusal (refusal_in rows) ≡ true → refusal_in rows ≡ refusal_in (rows ++ more)
unfolding refusal_in is_refusal
front_refuses [] more e = absurd (false≢true e)
front_refuses (r ∷ rs) more e = go r.applies e (front_refuses rs more)
  where
    go : (b : Bool) → is_refusal (pick b (Err r.gives) (refusal_in rs)) ≡ true
        → (is_refusal (refusal_in rs) ≡ true → refusal_in rs ≡ refusal_in (rs ++ more))
        → pick b (Err r.gives) (refusal_in rs) ≡ pick b (Err r.gives) (refusal_in (rs ++ more))
    go true e rest = refl
    go false e rest = rest e

-- and where they refuse nothing, those behind them decide
front_passes : (rows more : List (Row Outcome)) → is_refusal (refusal_in rows) ≡ false → refusal_in more ≡ refusal_in (rows ++ more)
unfolding refusal_in is_refusal
front_passes [] more e = refl
front_passes (r ∷ rs) more e = go r.applies e (front_passes rs more)
  where
    go : (b : Bool) → is_refusal (pick b (Err r.gives) (refusal_in rs)) ≡ false
        → (is_refusal (refusal_in rs) ≡ false → refusal_in more ≡ refusal_in (rs ++ more))
        → refusal_in more ≡ pick b (Err r.gives) (refusal_in (rs ++ more))
    go true e rest = absurd (true≢false e)
    go false e rest = rest e

-- the first that applies is what comes back, and where none does what comes back without a refusal
pub first_err : (rows : List (Row Outcome)) (other o : Outcome) → refusal_in rows ≡ Err o → first_of rows other ≡ o
unfolding or_else
first_err rows other o e = sym (else_first rows other) ∙ ap (λ (x : Result ⊤ Outcome). or_else x other) e

pub first_ok : (rows : List (Row Outcome)) (other : Outcome) {u : ⊤} → refusal_in rows ≡ Ok u → first_of rows other ≡ other
unfolding or_else
first_ok rows other e = sym (else_first rows other) ∙ ap (λ (x : Result ⊤ Outcome). or_else x other) e

-- a refusal by rows in front of others is the refusal of all
pub front_err : (rows more : List (Row Outcome)) {o : Outcome} → refusal_in rows ≡ Err o → refusal_in (rows ++ more) ≡ Err o
unfolding is_refusal
front_err rows more e = sym (front_refuses rows more (ap is_refusal e)) ∙ e

-- and where they refuse nothing, those behind them decide
pub front_ok : (rows more : List (Row Outcome)) {u : ⊤} → refusal_in rows ≡ Ok u → refusal_in (rows ++ more) ≡ refusal_in more
unfolding is_refusal
front_ok rows more e = sym (front_passes rows more (ap is_refusal e))

-- a refusal does not ask what comes back without it
else_any : (x : Result ⊤ Outcome) (a b : Outcome) → is_refusal x ≡ true → or_else x a ≡ or_else x b
unfolding is_refusal or_else
else_any (Err o) a b e = refl
else_any (Ok u) a b e = absurd (false≢true e)

module _ (rows : List (Row Outcome)) {x : Result ⊤ Outcome} (e : x ≡ refusal_in rows) {answer : Bool} (d : answer ≡ is_refusal x) where
  -- where the rows refuse nothing, the test of each fails
  pub none_refuses : answer ≡ false → (k : ℕ) → get_or (tests rows) k false ≡ false
  none_refuses f = none_fails rows (rw e at (sym d ∙ f))

  module _ (more : List (Row Outcome)) where
    -- a refusal by rows in front of others is the refusal of all
    pub refused : answer ≡ true → x ≡ refusal_in (rows ++ more)
    refused t = e ∙ front_refuses rows more (rw e at (sym d ∙ t))

    -- where they refuse nothing, the refusal is that of those behind
    pub passed : answer ≡ false → {y : Result ⊤ Outcome} → y ≡ refusal_in more → y ≡ refusal_in (rows ++ more)
    passed f k = k ∙ front_passes rows more (rw e at (sym d ∙ f))

    -- what comes back for a refusal by rows in front of others comes back for all, whatever were to come without it
    pub refused_first : answer ≡ true → (other without : Outcome) → or_else x other ≡ first_of (rows ++ more) without
    refused_first t other without =
        else_any x other without (sym d ∙ t) ∙ ap (λ (y : Result ⊤ Outcome). or_else y without) (refused t) ∙ else_first (rows ++ more) without

    -- where they refuse nothing, what those behind give comes back
    pub passed_first : answer ≡ false → (other : Outcome) → first_of more other ≡ first_of (rows ++ more) other
    passed_first f other =
        sym (else_first more other) ∙ ap (λ (y : Result ⊤ Outcome). or_else y other) (passed f refl) ∙ else_first (rows ++ more) other
