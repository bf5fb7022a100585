-- Whether some place passes a test, before and after a success: the place that is written may, the one that was presented does no
-- more, and any other does as before.
use mathlib.Core.Path.{◌≡◌, refl, sym, ◌∙◌, ap}
use mathlib.Core.Bool.{Bool, true, false, not, ◌&&◌, ◌||◌, true≢false, and-true, and-false}
use mathlib.Core.List.{List, [], ◌∷◌}
use Prim.Native.Nat.{ℕ, zero, suc, ◌<◌}
use native.Mathlib.Decide.{ℕ_discrete}
use native.Mathlib.Nat.{not-suc-le-zero, le_of_suc-le-suc}
use native.Mathlib.Omega.{arith}
use lib.Dec.{eqb}
use lib.ListN.{length, set, length-set}
use lib.Seq.{get_or-set_same, get_or-set_other}
use borrow.Author.Tests.{ltb-true, eqb-true, eqb-false, not-true}
use Rattle.laws.specs.Choose.{pick}
use Rattle.laws.specs.Lists.{any}
use Rattle.laws.proofs.Tests.{place_holds}
use Rattle.tag.specs.Written.{is_tag_text}
use Rattle.tag.proofs.Written.{tag_named_once}
use Rattle.record.specs.Places.{Place, free_place, places, lowest_free}
use Rattle.success.specs.After.{freed, freed_places, is_match, written_slot, written, ended_places, written_places, places_after}
use Rattle.record.specs.declared.Record.{Record}
use Rattle.success.specs.declared.Success.{Success}
use Rattle.record.proofs.Places.{place_at}
use Rattle.success.proofs.Stands.{freed_at_lem}
use Rattle.success.proofs.StoreLaws.{places_in_length, freed_places_length}
use Rattle.laws.proofs.Bools.{or_turned}
use Rattle.runs.proofs.Kept.{Kept, small}

-- with one place replaced: the new one passes, or one does with that place free
any_set : (f : Place → Bool) (xs : List Place) (i : ℕ) (y : Place) → f free_place ≡ false → i < length xs
    → any f (set xs i y) ≡ (f y || any f (set xs i free_place))
unfolding any
any_set f [] i y e h = absurd (not-suc-le-zero h)
any_set f (x ∷ xs) zero y e h = rw e
any_set f (x ∷ xs) (suc i) y e h =
    ap (λ (b : Bool). f x || b) (any_set f xs i y e (le_of_suc-le-suc h)) ∙ or_turned (f x) (f y) (any f (set xs i free_place))

-- two tests that agree at each place of two lists of one length
pub any_agree : (f g : Place → Bool) (xs ys : List Place) → length xs ≡ length ys → ((k : ℕ) → f (place_at xs k) ≡ g (place_at ys k))
    → any f xs ≡ any g ys
unfolding any
any_agree f g [] [] e h = refl
any_agree f g [] (y ∷ ys) e h = absurd (omega arith)
any_agree f g (x ∷ xs) [] e h = absurd (omega arith)
any_agree f g (x ∷ xs) (y ∷ ys) e h = rw (h 0, any_agree f g xs ys (omega arith) (λ k. h (suc k)))

-- a success at a record, with the token that it presents where it presents one
pub record At (x : Success) (r : Record) (token : List ℕ) : Type 0 where
  pub kept : Kept r
  pub there : 0 < x.granted → written_slot x r < 8
  pub taken : is_match x ≡ true → (place_at (places r) x.slot).taken ≡ true
  pub named : is_match x ≡ true → is_tag_text token (place_at (places r) x.slot).slot.tag ≡ true

-- the publication at a place is the one that is presented
abbrev pub is_presented : Success → List ℕ → Place → Bool
is_presented x token o = is_match x && is_tag_text token o.slot.tag

-- what is written to a place
abbrev pub new_place : Success → Record → Place
new_place x r = record { taken = true; slot = written x r (place_at (freed_places x r) (written_slot x r)).slot }

module _ (x : Success) (r : Record) (token : List ℕ) (success : At x r token) (f : Place → Bool) (untaken : (o : Place) → o.taken ≡ false → f o ≡ false)
    (on : (o : Place) → f (freed x.clock o) ≡ f o) where
  -- the places once those are freed whose end has come
  abbrev F : List Place
  F = freed_places x r

  -- the place passes, and is not the one that is presented
  abbrev rest : Place → Bool
  rest o = f o && not (is_presented x token o)

  -- there are eight of them
  size : length F ≡ 8
  size = freed_places_length x r ∙ success.kept.eight

  -- as many as before
  sizes : length F ≡ length (places r)
  unfolding places
  sizes = freed_places_length x r ∙ sym (places_in_length r.map r.slots)

  -- where it is not the presented one, it passes as before
  other : (k : ℕ) → (is_match x ≡ true → k ≡ x.slot → ⊥) → f (place_at F k) ≡ rest (place_at (places r) k)
  other k n =
      ap f (freed_at_lem x r k) ∙ on o ∙ go (is_match x) refl (is_tag_text token o.slot.tag) refl o.taken refl
    where
      o : Place
      o = place_at (places r) k

      go : (b : Bool) → is_match x ≡ b → (c : Bool) → is_tag_text token o.slot.tag ≡ c → (d : Bool) → o.taken ≡ d
          → f o ≡ (f o && not (b && c))
      go true m true e true t =
          absurd (n m (success.kept.apart k x.slot t (success.taken m)
          (tag_named_once token _ _ (small r success.kept k t) (small r success.kept x.slot (success.taken m)) e (success.named m))))
      go true m true e false t = rw (untaken o t)
      go true m false e d t = sym (and-true (f o))
      go false m c e d t = sym (and-true (f o))

  -- with one place freed, where what stood there is presented or free
  emptied : (i : ℕ) → i < 8 → rest (place_at (places r) i) ≡ false → ((k : ℕ) → (k ≡ i → ⊥) → is_match x ≡ true → k ≡ x.slot → ⊥)
      → any f (set F i free_place) ≡ any rest (places r)
  emptied i h gone apart =
      any_agree f rest (set F i free_place) (places r) (sizes_set ∙ sizes) (λ k. go k (ℕ_discrete k i))
    where
      sizes_set : length (set F i free_place) ≡ length F
      sizes_set = length-set F i free_place

      go : (k : ℕ) → Dec (k ≡ i) → f (place_at (set F i free_place) k) ≡ rest (place_at (places r) k)
      go k (yes e) = rw (e, get_or-set_same F i free_place free_place (omega (arith, size)), untaken free_place refl) (sym gone)
      go k (no n) = ap f (get_or-set_other F i k free_place free_place n) ∙ other k (apart k n)

  -- the presented one is freed
  presented : is_match x ≡ true → any f (set F x.slot free_place) ≡ any rest (places r)
  unfolding is_match
  presented m =
      emptied x.slot (ltb-true _ 8 m) (rw (m, success.named m) (and-false (f (place_at (places r) x.slot)))) (λ k n m e. n e)

  -- where nothing is presented, a free place may be freed
  initial : is_match x ≡ false → lowest_free F < 8 → any f (set F (lowest_free F) free_place) ≡ any rest (places r)
  unfolding lowest_free
  initial m h =
      emptied (lowest_free F) h (rw fails) (λ k n m'. absurd (true≢false (sym m' ∙ m)))
    where
      free : (place_at F (lowest_free F)).taken ≡ false
      free = not-true _ (place_holds (λ o. not o.taken) F free_place (omega (arith, size)))

      fails : f (place_at (places r) (lowest_free F)) ≡ false
      fails =
          sym (on (place_at (places r) (lowest_free F))) ∙ ap f (sym (freed_at_lem x r (lowest_free F))) ∙ untaken (place_at F (lowest_free F)) free

  -- whether some place passes after the success
  pub any_after : (x.granted ≡ 0 → f (new_place x r) ≡ false) → any f (places_after x r) ≡ (f (new_place x r) || any rest (places r))
  unfolding places_after ended_places written_places written_slot
  any_after ended = go (eqb x.granted 0) refl
    where
      ends : (b : Bool) → is_match x ≡ b → any f (pick b (set F x.slot free_place) F) ≡ any rest (places r)
      ends true m = presented m
      ends false m = any_agree f rest F (places r) sizes (λ k. other k (λ m'. absurd (true≢false (sym m' ∙ m))))

      writes : (b : Bool) → is_match x ≡ b → pick b x.slot (lowest_free F) < 8
          → any f (set F (pick b x.slot (lowest_free F)) free_place) ≡ any rest (places r)
      writes true m h = presented m
      writes false m h = initial m h

      go : (b : Bool) → eqb x.granted 0 ≡ b → any f (pick b (ended_places x r) (written_places x r)) ≡ (f (new_place x r) || any rest (places r))
      go true e = rw (ended (eqb-true _ _ e)) (ends (is_match x) refl)
      go false e =
          let some : (x.granted ≡ 0 → ⊥) = eqb-false _ _ e in
          let there : written_slot x r < 8 = success.there (omega arith) in
          any_set f F (written_slot x r) (new_place x r) (untaken free_place refl) (omega (arith, size))
          ∙ ap (λ (b : Bool). f (new_place x r) || b) (writes (is_match x) refl there)
