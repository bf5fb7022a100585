-- Any inputs to a table of a run, seen from one address: it lives as if it were alone.
use mathlib.Core.Path.{◌≡◌, refl, ◌∙◌, ap₂}
use mathlib.Core.Bool.{Bool, true, false}
use mathlib.Core.List.{List, [], ◌∷◌}
use Prim.Native.Nat.{ℕ}
use Rattle.laws.specs.Lists.{those}
use Rattle.table.specs.Table.{Table, is_known}
use Rattle.table.specs.Handle.{Input}
use Rattle.table.specs.Run.{Given, in_front_of}
use Rattle.runs.specs.Reach.{is_for}
use Rattle.runs.specs.Alone.{Life, answered, beginning, alone_from}
use Rattle.runs.proofs.Fine.{Fine}
use Rattle.runs.proofs.Sent.{own_in, part_in, table_in, send_in, fine_in}
use Rattle.runs.proofs.Own.{lived, left, known_same}

-- what some inputs show of an address
abbrev pub life_in : List ℕ → Given → Life
life_in a g = record { exchanges = those (λ x. is_for a x.input) g.exchanges; own = own_in a g.table; part = part_in a g.table }

-- the address lives as if it were alone
pub lives : (a : List ℕ) (xs : List Input) (t : Table) → Fine t → is_known a t ≡ true
    → life_in a (send_in xs t) ≡ alone_from (own_in a t) (part_in a t) (those (is_for a) xs)
unfolding send_in in_front_of alone_from beginning those answered
lives a [] t f k = refl
lives a (x ∷ xs) t f k = go (is_for a x) refl (lives a xs (table_in t x) (fine_in t x f) (known_same t x f a ∙ k))
  where
    go : (b : Bool) → is_for a x ≡ b
        → life_in a (send_in xs (table_in t x)) ≡ alone_from (own_in a (table_in t x)) (part_in a (table_in t x)) (those (is_for a) xs)
        → life_in a (send_in (x ∷ xs) t) ≡ alone_from (own_in a t) (part_in a t) (those (is_for a) (x ∷ xs))
    go true e deep =
        let s = lived t x f a k e in
        rw e (ap₂ beginning s.exchange (deep ∙ ap₂ (λ r bs. alone_from r bs (those (is_for a) xs)) s.own s.part))
    go false e deep =
        let s = left t x f a k e in rw e (deep ∙ ap₂ (λ r bs. alone_from r bs (those (is_for a) xs)) s.own s.part)

-- and an address that is there stays there
pub known_sent : (a : List ℕ) (xs : List Input) (t : Table) → Fine t → is_known a (send_in xs t).table ≡ is_known a t
unfolding send_in in_front_of
known_sent a [] t f = refl
known_sent a (x ∷ xs) t f = known_sent a xs (table_in t x) (fine_in t x f) ∙ known_same t x f a
