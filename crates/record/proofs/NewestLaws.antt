-- The laws of the newest publication: the first place with the highest number, found by keeping the best place so far.
use mathlib.Core.Path.{◌≡◌, refl, sym, ◌∙◌, ap}
use mathlib.Core.Bool.{Bool, true, false, ◌&&◌, false≢true}
use mathlib.Core.List.{List, [], ◌∷◌}
use Prim.Native.Nat.{ℕ, suc, ◌+◌, ◌<◌, ◌≤◌}
use native.Mathlib.Nat.{le_trans, le_refl, add-zero, zero-add}
use native.Mathlib.Omega.{arith}
use lib.Dec.{leb, ltb}
use borrow.Author.Tests.{leb-true, leb-false, le-leb, lt-leb, ltb-true, ltb-false}
use Rattle.std.specs.Prelude.{Option, Some, None, MatchOption, ⊤}
use Rattle.std.specs.Option.{option_map}
use Rattle.laws.specs.Choose.{pick, below}
use Rattle.laws.proofs.Some.{below_some, below_none}
use Rattle.laws.specs.Lists.{those, place_of, every}
use Rattle.laws.proofs.Lists.{place_agree}
use Rattle.laws.proofs.Tests.{every_follows}
use Rattle.record.specs.Places.{Place, places, is_of, newest}
use Rattle.record.specs.declared.Record.{Record}
use Rattle.record.specs.declared.slots.Best.{Best}
use Rattle.record.proofs.SlotLaws.{places_from}

-- none of these places has a higher number
abbrev at_most : ℕ → List Place → Bool
at_most n ps = every (λ o. leb o.slot.edition n) ps

-- a place of the kind looked for, than which none of these has a higher number
abbrev is_highest : (Place → Bool) → List Place → Place → Bool
is_highest f all p = f p && at_most p.slot.edition all

-- where the first such place stands among some places
unfoldable pub highest_at : (Place → Bool) → List Place → ℕ
highest_at f ps = place_of (is_highest f (those f ps)) ps

-- what is found from place i on, with the best found before
unfoldable pub newest_with : (Place → Bool) → Option Best → ℕ → List Place → ℕ
newest_with f None i ps = i + highest_at f ps
newest_with f (Some b) i ps = pick (at_most b.edition (those f ps)) b.slot (i + highest_at f ps)

-- the best found before stands before place i
abbrev pub Before : Option Best → ℕ → Type 0
Before best i = MatchOption best ⊤ (λ b. b.slot < i)

-- the newest is found from all places, with none found before
pub newest_start : (clock event : ℕ) (r : Record) → newest clock event r ≡ newest_with (is_of clock event) None 0 (places_from r.map 0 r.slots)
unfolding places_from newest_with highest_at newest places
newest_start clock event r = sym (zero-add _)

-- with no place left it is the slot of the best found before, where there is one
pub newest_done : (f : Place → Bool) (best : Option Best) (i : ℕ) {qs : List Place} → qs ≡ [] → i ≡ 8 → Before best i
    → below 8 (newest_with f best i qs) ≡ option_map (λ b. b.slot) best
unfolding newest_with highest_at every those place_of
newest_done f None i w e h = rw (w, e) (below_none 8 8 (omega arith))
newest_done f (Some b) i w e h = rw w (below_some 8 b.slot (omega arith))

-- what the best becomes with slot i as well, where that counts
abbrev pub Better : Option Best → Bool → ℕ → ℕ → Option Best → Type 0
Better best counts i edition next =
    MatchOption best (next ≡ pick counts (Some (record { slot = i; edition = edition })) best)
    (λ b. next ≡ pick (counts && ltb b.edition edition) (Some (record { slot = i; edition = edition })) best)

-- where none is above a number, none is above a greater one
at_most_more : (a b : ℕ) (ps : List Place) → a ≤ b → at_most a ps ≡ true → at_most b ps ≡ true
at_most_more a b ps h =
    every_follows (λ o. leb o.slot.edition a) (λ o. leb o.slot.edition b) ps (λ o e. le-leb _ b (le_trans (leb-true _ a e) h))

-- and where one is above a number, one is above a smaller one
at_most_less : (a b : ℕ) (ps : List Place) → a ≤ b → at_most b ps ≡ false → at_most a ps ≡ false
at_most_less a b ps h e = go (at_most a ps) refl
  where
    go : (t : Bool) → at_most a ps ≡ t → at_most a ps ≡ false
    go true k = absurd (false≢true (sym e ∙ at_most_more a b ps h k))
    go false k = k

module _ (f : Place → Bool) (p : Place) (ps : List Place) where
  -- a place of another kind is not among those
  those_off : f p ≡ false → those f (p ∷ ps) ≡ those f ps
  unfolding those
  those_off e = rw e

  -- and one of the kind is
  those_on : f p ≡ true → those f (p ∷ ps) ≡ p ∷ those f ps
  unfolding those
  those_on e = rw e

  -- a place of another kind does not count
  highest_skip : f p ≡ false → highest_at f (p ∷ ps) ≡ suc (highest_at f ps)
  unfolding highest_at place_of
  highest_skip e = ap (λ (ts : List Place). place_of (is_highest f ts) (p ∷ ps)) (those_off e) ∙ rw e

  -- a place with a number that none behind it exceeds is found
  highest_here : f p ≡ true → at_most p.slot.edition (those f ps) ≡ true → highest_at f (p ∷ ps) ≡ 0
  unfolding highest_at place_of every
  highest_here e h = rw (those_on e, e, le-leb p.slot.edition p.slot.edition (le_refl _), h)

  -- beside a higher one a place does not count
  highest_same : at_most p.slot.edition (those f ps) ≡ false → (q : Place) → is_highest f (p ∷ those f ps) q ≡ is_highest f (those f ps) q
  unfolding every
  highest_same h q = go (at_most q.slot.edition (those f ps)) refl (leb p.slot.edition q.slot.edition) refl
    where
      go : (a : Bool) → at_most q.slot.edition (those f ps) ≡ a → (l : Bool) → leb p.slot.edition q.slot.edition ≡ l
          → is_highest f (p ∷ those f ps) q ≡ is_highest f (those f ps) q
      go a e true k = rw k
      go false e false k = rw (k, e)
      go true e false k =
          let less : q.slot.edition < p.slot.edition = leb-false p.slot.edition q.slot.edition k in
          absurd (false≢true (sym h ∙ at_most_more q.slot.edition p.slot.edition (those f ps) (omega arith) e))

  -- a place with a higher one behind it is passed
  highest_on : f p ≡ true → at_most p.slot.edition (those f ps) ≡ false → highest_at f (p ∷ ps) ≡ suc (highest_at f ps)
  unfolding highest_at place_of every
  highest_on e h =
      ap (λ (ts : List Place). place_of (is_highest f ts) (p ∷ ps)) (those_on e)
      ∙ rw (e, le-leb p.slot.edition p.slot.edition (le_refl _), h) (ap suc (place_agree _ _ (highest_same h) ps))

  -- the place reached becomes the best
  best_here : (i : ℕ) → f p ≡ true → i + highest_at f (p ∷ ps) ≡ newest_with f (Some (record { slot = i; edition = p.slot.edition })) (i + 1) ps
  unfolding newest_with
  best_here i e = go (at_most p.slot.edition (those f ps)) refl
    where
      go : (a : Bool) → at_most p.slot.edition (those f ps) ≡ a → i + highest_at f (p ∷ ps) ≡ pick a i (i + 1 + highest_at f ps)
      go true h = rw (highest_here e h) (add-zero i)
      go false h = rw (highest_on e h) (omega arith)

  -- the best found before stays the best
  best_before : (b : Best) (i : ℕ) → f p ≡ true → p.slot.edition ≤ b.edition
      → pick (at_most b.edition (those f ps)) b.slot (i + highest_at f (p ∷ ps)) ≡ pick (at_most b.edition (those f ps)) b.slot (i + 1 + highest_at f ps)
  best_before b i e h = go (at_most b.edition (those f ps)) refl
    where
      go : (a : Bool) → at_most b.edition (those f ps) ≡ a → pick a b.slot (i + highest_at f (p ∷ ps)) ≡ pick a b.slot (i + 1 + highest_at f ps)
      go true k = refl
      go false k = rw (highest_on e (at_most_less p.slot.edition b.edition (those f ps) h k)) (omega arith)

-- one place more: one that counts is the best where none was found before or its number is higher
pub newest_on : (f : Place → Bool) (best next : Option Best) (t : Bool) (i : ℕ) {p : Place} {ps qs : List Place} → qs ≡ p ∷ ps → t ≡ f p
    → Better best t i p.slot.edition next → newest_with f best i qs ≡ newest_with f next (i + 1) ps
unfolding newest_with those every
newest_on f None next t i {p} {ps} v e w = rw (v, w) (go t (sym e))
  where
    go : (t : Bool) → f p ≡ t
        → i + highest_at f (p ∷ ps) ≡ newest_with f (pick t (Some (record { slot = i; edition = p.slot.edition })) None) (i + 1) ps
    go true k = best_here f p ps i k
    go false k = rw (highest_skip f p ps k) (omega arith)
newest_on f (Some b) next t i {p} {ps} v e w = rw (v, w) (go t (sym e) (ltb b.edition p.slot.edition) refl)
  where
    go : (t : Bool) → f p ≡ t → (l : Bool) → ltb b.edition p.slot.edition ≡ l
        → newest_with f (Some b) i (p ∷ ps) ≡ newest_with f (pick (t && l) (Some (record { slot = i; edition = p.slot.edition })) (Some b)) (i + 1) ps
    go false k l h =
        let next : i + suc (highest_at f ps) ≡ i + 1 + highest_at f ps = omega arith in rw (highest_skip f p ps k, k, next)
    go true k true h =
        rw (k, lt-leb p.slot.edition b.edition (ltb-true _ _ h)) (best_here f p ps i k)
    go true k false h =
        let most : p.slot.edition ≤ b.edition = ltb-false _ _ h in rw (k, le-leb p.slot.edition b.edition most) (best_before f p ps b i k most)

-- and the best so far stands before the next
pub newest_before : (best next : Option Best) (t : Bool) (i edition : ℕ) → Better best t i edition next → Before best i → Before next (i + 1)
newest_before None next true i edition w h = rw w (omega arith)
newest_before None next false i edition w h = rw w tt
newest_before (Some b) next t i edition w h = rw w (go (t && ltb b.edition edition))
  where
    go : (c : Bool) → Before (pick c (Some (record { slot = i; edition = edition })) (Some b)) (i + 1)
    go true = omega arith
    go false = omega arith
