-- The unit at a position, and the normal text by what stands first, as the iterator takes it.
use mathlib.Core.Path.{◌≡◌, refl, sym, ◌∙◌, ap}
use mathlib.Core.Bool.{Bool, true, false, ◌&&◌}
use mathlib.Core.List.{List, [], ◌∷◌}
use mathlib.Core.Logic.{◌⊎◌, inl, inr, ⊎_elim}
use Prim.Native.Nat.{ℕ, ◌+◌, ◌<◌, ◌≤◌}
use native.Mathlib.Nat.{add-zero}
use native.Mathlib.Omega.{arith}
use lib.Dec.{eqb, ltb}
use lib.ListN.{length, get_or, drop, length-drop}
use lib.Seq.{drop-drop, get_or-drop}
use borrow.Author.Tests.{eq-eqb, ne_eqb, eqb-true, eqb-false, lt-ltb, le-ltb, ltb-true, ltb-false}
use Rattle.laws.specs.Choose.{pick}
use Rattle.laws.specs.Lists.{byte_at, empty}
use Rattle.text.proofs.RunLaws.{byte_there, byte_past}
use Rattle.uri.specs.Classes.{is_hex}
use Rattle.uri.specs.Escapes.{escaped_byte, normal}
use Rattle.uri.specs.Units.{is_escape, unit_at}
use Rattle.uri.specs.All.{all_uri}
use Rattle.uri.specs.declared.escapes.Unit.{Unit}

-- no byte
pub normal_none : (s : List ℕ) → length s < 1 → normal s ≡ []
unfolding normal
normal_none [] h = refl
normal_none (x ∷ xs) h = absurd (omega arith)

-- an escape stands for its byte
pub normal_escape : (s : List ℕ) → 3 ≤ length s → get_or s 0 0 ≡ 37
    → normal s ≡ escaped_byte (get_or s 1 0) (get_or s 2 0) ∷ normal (drop 3 s)
unfolding normal
normal_escape [] h e = absurd (omega arith)
normal_escape (x ∷ []) h e = absurd (omega arith)
normal_escape (x ∷ y ∷ []) h e = absurd (omega arith)
normal_escape (x ∷ y ∷ z ∷ rest) h e = rw e

-- a byte that begins none stands for itself
pub normal_bare : (s : List ℕ) → 1 ≤ length s → (3 ≤ length s → get_or s 0 0 ≡ 37 → ⊥) → normal s ≡ get_or s 0 0 ∷ normal (drop 1 s)
unfolding normal
normal_bare [] h n = absurd (omega arith)
normal_bare (x ∷ []) h n = refl
normal_bare (x ∷ y ∷ []) h n = refl
normal_bare (x ∷ y ∷ z ∷ rest) h n = rw (ne_eqb x 37 (n (omega arith)))

-- a text and its normal text are empty together
pub normal_empty : (s : List ℕ) → empty s ≡ empty (normal s)
unfolding empty normal
normal_empty [] = refl
normal_empty (x ∷ []) = refl
normal_empty (x ∷ y ∷ []) = refl
normal_empty (x ∷ y ∷ z ∷ rest) = go (eqb x 37)
  where
    go : (b : Bool) → false ≡ empty (pick b (escaped_byte y z ∷ normal rest) (x ∷ normal (y ∷ z ∷ rest)))
    go true = refl
    go false = refl

module _ (s : List ℕ) (i : ℕ) where
  -- a byte that begins no escape is told from one
  not_escape : i < length s → (get_or s i 0 ≡ 37 → length s ≤ i + 2) → is_escape s i ≡ false
  unfolding is_escape
  not_escape h n = rw (byte_there s i h) (go (eqb (get_or s i 0) 37) refl)
    where
      go : (b : Bool) → eqb (get_or s i 0) 37 ≡ b → (b && ltb (i + 2) (length s)) ≡ false
      go true e = le-ltb (i + 2) (length s) (n (eqb-true (get_or s i 0) 37 e))
      go false e = refl

  -- the unit there: a byte that begins no escape
  pub unit_bare : i < length s → (get_or s i 0 ≡ 37 → length s ≤ i + 2) → unit_at s i ≡ record { value = get_or s i 0; next = i + 1 }
  unfolding unit_at
  unit_bare h n = rw (not_escape h n, byte_there s i h)

  -- an escape
  pub unit_escape : i + 2 < length s → get_or s i 0 ≡ 37
      → unit_at s i ≡ record { value = escaped_byte (get_or s (i + 1) 0) (get_or s (i + 2) 0); next = i + 3 }
  unfolding unit_at is_escape
  unit_escape h e =
      rw (byte_there s i (omega arith), byte_there s (i + 1) (omega arith), byte_there s (i + 2) h, eq-eqb (get_or s i 0) 37 e, lt-ltb (i + 2) (length s) h)

  -- at each position one of the two stands
  which : ((i + 2 < length s) × (get_or s i 0 ≡ 37)) ⊎ (get_or s i 0 ≡ 37 → length s ≤ i + 2)
  which = go (ltb (i + 2) (length s)) refl (eqb (get_or s i 0) 37) refl
    where
      go : (a : Bool) → ltb (i + 2) (length s) ≡ a → (b : Bool) → eqb (get_or s i 0) 37 ≡ b
          → ((i + 2 < length s) × (get_or s i 0 ≡ 37)) ⊎ (get_or s i 0 ≡ 37 → length s ≤ i + 2)
      go true h true e = inl (ltb-true (i + 2) (length s) h, eqb-true (get_or s i 0) 37 e)
      go true h false e = inr (λ q. absurd (eqb-false (get_or s i 0) 37 e q))
      go false h b e = inr (λ q. ltb-false (i + 2) (length s) h)

  -- what stands first behind the position is what stands there
  first_there : get_or (drop i s) 0 0 ≡ get_or s i 0
  first_there = get_or-drop i s 0 0 ∙ rw add-zero

  -- from there on: an escape
  escape_on : i + 2 < length s → get_or s i 0 ≡ 37
      → normal (drop i s) ≡ escaped_byte (get_or s (i + 1) 0) (get_or s (i + 2) 0) ∷ normal (drop (i + 3) s)
  escape_on h e =
      normal_escape (drop i s) (omega (arith, length-drop i s)) (first_there ∙ e)
      ∙ rw (get_or-drop i s 1 0, get_or-drop i s 2 0, drop-drop 3 i s)

  -- a byte that begins none
  bare_on : i < length s → (get_or s i 0 ≡ 37 → length s ≤ i + 2) → normal (drop i s) ≡ get_or s i 0 ∷ normal (drop (i + 1) s)
  bare_on h n =
      normal_bare (drop i s) (omega (arith, length-drop i s)) (λ k q. omega (arith, length-drop i s, n (sym first_there ∙ q)))
      ∙ rw (first_there, drop-drop 1 i s)

  module _ (h : i < length s) (u : Unit) (e : u ≡ unit_at s i) where
    -- the normal text from a position on is the unit there, and the normal text behind it
    pub unit_step : normal (drop i s) ≡ u.value ∷ normal (drop u.next s)
    unit_step =
        ⊎_elim (λ w. rw (e ∙ unit_escape w.0 w.1) (escape_on w.0 w.1)) (λ n. rw (e ∙ unit_bare h n) (bare_on h n)) which

    -- and that begins behind the position
    pub unit_after : i < u.next
    unit_after =
        ⊎_elim (λ w. rw (e ∙ unit_escape w.0 w.1) (omega arith)) (λ n. rw (e ∙ unit_bare h n) (omega arith)) which

    -- and within the text
    pub unit_within : u.next ≤ length s
    unit_within =
        ⊎_elim (λ w. rw (e ∙ unit_escape w.0 w.1) (omega (arith, w.0))) (λ n. rw (e ∙ unit_bare h n) (omega arith)) which

  -- within the text its byte is asked for a hex digit
  pub hex_there : i < length s → is_hex (byte_at s i) ≡ is_hex (get_or s i 0)
  hex_there h = ap is_hex (byte_there s i h)

  -- and past its end there is none
  pub hex_past : length s ≤ i → is_hex (byte_at s i) ≡ false
  unfolding all_uri
  hex_past h = rw (byte_past s i h)
