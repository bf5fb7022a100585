-- The looks at records say of them what the records do: which are in front, whether they are sound, and where one stands. Sound records in use have the same address exactly if their 64 bytes are the same.
use mathlib.Core.Path.{◌≡◌, refl, sym, ◌∙◌, ap}
use mathlib.Core.Bool.{Bool, true, false, ◌&&◌, not}
use mathlib.Core.List.{List, [], ◌∷◌, map}
use Prim.Native.Nat.{ℕ, zero, suc, ◌≤◌}
use lib.Dec.{eqb}
use lib.ListN.{length, take}
use mir.Val.{Val}
use borrow.Author.Tests.{eqb-true, eq-eqb}
use denote.Array.{Array, each}
use denote.Laws.{Is}
use denote.Shadow.{shadow}
use denote.Struct.Declared.{row}
use denote.Struct.Laws.{owed}
use Rattle.laws.specs.Choose.{pick}
use Rattle.laws.specs.Lists.{every, pairwise, those, place_of}
use Rattle.laws.proofs.Lists.{every_map}
use Rattle.laws.proofs.Tests.{and_left, and_right, and_both, every_head, every_tail, every_cons, every_those}
use Rattle.record.specs.Places.{is_in_use}
use Rattle.record.specs.Address.{address_of, has_address, is_for}
use Rattle.record.specs.Sound.{is_sound, addresses_differ, all_sound}
use Rattle.record.specs.declared.Record.{Record}
use Rattle.record.proofs.AddressLaws.{held_same, sound_used}
use Rattle.record.proofs.WalkLaws.{every_both}
use Rattle.lent.specs.Look.{look_of, looks_of, looks_differ, looks_sound, is_look_for}
use Rattle.lent.specs.contracts.look.Look.{the_type}
use Rattle.lent.specs.declared.look.Look.{Look}
use Rattle.lent.proofs.look.Look.TheLaws.{the_laws}
use Rattle.lent.proofs.SixteenLaws.{take_sixteen}

module _ {A : Type 0} where
  -- a test that holds at every element holds at those in front
  every_take : (f : A → Bool) (n : ℕ) (xs : List A) → every f xs ≡ true → every f (take n xs) ≡ true
  unfolding every
  every_take f zero xs e = refl
  every_take f (suc n) [] e = refl
  every_take f (suc n) (x ∷ xs) e = every_cons f x (take n xs) (every_head f x xs e) (every_take f n xs (every_tail f x xs e))

  -- two tests that agree where a third holds agree on elements at which that holds
  every_agree : (f g w : A → Bool) → ((x : A) → w x ≡ true → f x ≡ g x) → (xs : List A) → every w xs ≡ true → every f xs ≡ every g xs
  unfolding every
  every_agree f g w alike [] e = refl
  every_agree f g w alike (x ∷ xs) e = rw (alike x (every_head w x xs e), every_agree f g w alike xs (every_tail w x xs e))

  -- and so do tests of pairs
  pairwise_agree : (f g : A → A → Bool) (w : A → Bool) → ((x y : A) → w x ≡ true → w y ≡ true → f x y ≡ g x y) → (xs : List A) → every w xs ≡ true → pairwise f xs ≡ pairwise g xs
  unfolding pairwise
  pairwise_agree f g w alike [] e = refl
  pairwise_agree f g w alike (x ∷ xs) e =
      let rest = every_tail w x xs e in
      rw (every_agree (f x) (g x) w (λ y. alike x y (every_head w x xs e)) xs rest, pairwise_agree f g w alike xs rest)

-- a test of images is a test of what they are images of
module _ {A B : Type 0} (h : A → B) where
  take_map : (n : ℕ) (xs : List A) → take n (map h xs) ≡ map h (take n xs)
  take_map zero xs = refl
  take_map (suc n) [] = refl
  take_map (suc n) (x ∷ xs) = ap (λ (ys : List B). h x ∷ ys) (take_map n xs)

  pairwise_map : (f : B → B → Bool) (xs : List A) → pairwise f (map h xs) ≡ pairwise (λ x y. f (h x) (h y)) xs
  unfolding pairwise
  pairwise_map f [] = refl
  pairwise_map f (x ∷ xs) = rw (every_map h (f (h x)) xs, pairwise_map f xs)

  those_map : (f : B → Bool) (xs : List A) → those f (map h xs) ≡ map h (those (λ x. f (h x)) xs)
  unfolding those
  those_map f [] = refl
  those_map f (x ∷ xs) = rw (those_map f xs) (go (f (h x)))
    where
      go : (b : Bool) → pick b (h x ∷ map h (those (λ x. f (h x)) xs)) (map h (those (λ x. f (h x)) xs)) ≡ map h (pick b (x ∷ those (λ x. f (h x)) xs) (those (λ x. f (h x)) xs))
      go true = refl
      go false = refl

  place_map : (f : B → Bool) (xs : List A) → place_of f (map h xs) ≡ place_of (λ x. f (h x)) xs
  unfolding place_of
  place_map f [] = refl
  place_map f (x ∷ xs) = rw (place_map f xs)

-- the looks at records, at most sixteen, stand in front
pub front_looks : (rs : List Record) → length rs ≤ 16 → take (length rs) (looks_of rs) ≡ map look_of rs
unfolding looks_of
front_looks rs h = take_map look_of (length rs) _ ∙ ap (map look_of) (take_sixteen rs h)

-- where the record of an address stands
pub place_looks : (a : List ℕ) (rs : List Record) → place_of (is_look_for a) (map look_of rs) ≡ place_of (is_for a) rs
unfolding is_look_for is_for address_of look_of
place_looks a rs = place_map look_of (is_look_for a) rs

-- where the first unused record stands
pub unused_looks : (rs : List Record) → place_of (λ l. not l.used) (map look_of rs) ≡ place_of (λ r. not (is_in_use r)) rs
unfolding look_of
unused_looks rs = place_map look_of (λ l. not l.used) rs

-- a look has the 64 bytes of an address
abbrev pub is_long : Look → Bool
is_long l = eqb (length l.address) 64

-- what the type of an array of looks says of each of them: its address has them
each_long : (ls : List Look) (us : List Val) → shadow (each Look (row the_type).own_val ls us) → every is_long ls ≡ true
unfolding every
each_long [] us s = refl
each_long (l ∷ ls) [] s = absurd s
each_long (l ∷ ls) (u ∷ us) s =
    let bytes = (owed the_type the_laws l (u ∷ []) s.0).1.1.0 in
    every_cons is_long l ls (eq-eqb (length l.address) 64 bytes.1.0.1) (each_long ls us s.1)

-- every look of an array has
pub looks_long : (ls : List Look) (v : Val) → Is (Array (row the_type) 16) ls (v ∷ []) → every is_long ls ≡ true
looks_long ls v g = each_long ls g.0 g.1.1

-- and so has every one in front, where they are the looks at records
pub front_long : (rs : List Record) (ls : List Look) (v : Val) → length rs ≤ 16 → ls ≡ looks_of rs → Is (Array (row the_type) 16) ls (v ∷ [])
    → every is_long (map look_of rs) ≡ true
front_long rs ls v h e g =
    rw (← front_looks rs h) (every_take is_long (length rs) (looks_of rs) (rw e at (looks_long ls v g)))

-- a record that holds an address in 64 bytes
abbrev holds : Record → Bool
holds r = has_address r && is_long (look_of r)

-- a sound record in use holds one where its look has 64 bytes
sound_holds : (r : Record) → (is_sound r && is_long (look_of r)) ≡ true → is_in_use r ≡ true → holds r ≡ true
sound_holds r e u = and_both (has_address r) _ (sound_used r (and_left (is_sound r) _ e) u) (and_right (is_sound r) _ e)

-- the looks at two such records differ as their addresses do
differ_same : (r t : Record) → holds r ≡ true → holds t ≡ true → looks_differ (look_of r) (look_of t) ≡ addresses_differ r t
unfolding looks_differ addresses_differ look_of
differ_same r t e f =
    let alike = eqb-true _ 64 (and_right (has_address r) _ e) ∙ sym (eqb-true _ 64 (and_right (has_address t) _ f)) in
    ap not (held_same r t (and_left (has_address r) _ e) (and_left (has_address t) _ f) alike)

-- the looks are sound exactly if the records are
pub looks_sound_lem : (rs : List Record) → every is_long (map look_of rs) ≡ true → looks_sound (map look_of rs) ≡ all_sound rs
unfolding looks_sound all_sound look_of
looks_sound_lem rs e =
    rw (every_map look_of (λ l. l.sound) rs, those_map look_of (λ l. l.used) rs, pairwise_map look_of looks_differ) (go (every is_sound rs) refl)
  where
    long : every (λ r. is_long (look_of r)) rs ≡ true
    long = sym (every_map look_of is_long rs) ∙ e

    go : (b : Bool) → every is_sound rs ≡ b
        → (b && pairwise (λ r t. looks_differ (look_of r) (look_of t)) (those is_in_use rs)) ≡ (b && pairwise addresses_differ (those is_in_use rs))
    go true s =
        let both = every_both is_sound (λ r. is_long (look_of r)) rs ∙ and_both _ _ s long in
        pairwise_agree _ addresses_differ holds differ_same _ (every_those _ holds is_in_use rs sound_holds both)
    go false s = refl
