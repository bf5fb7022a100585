-- The laws of the witness's own frame: which tests make it one, where its parts lie, and that the bench says bad to it.
use mathlib.Core.Path.{◌≡◌, refl, sym, ◌∙◌, ap}
use mathlib.Core.Bool.{Bool, true, false}
use mathlib.Core.List.{List}
use Prim.Native.Nat.{ℕ, ◌+◌, ◌<◌, ◌≤◌}
use native.Mathlib.Omega.{arith}
use lib.Dec.{eqb, ltb, leb}
use lib.ListN.{length, get_or}
use borrow.Author.Tests.{le-leb, lt-leb, leb-true, eq-eqb, ne_eqb, eqb-true}
use Rattle.laws.specs.Choose.{pick}
use Rattle.laws.specs.Lists.{byte_at, part}
use Rattle.laws.proofs.Tests.{and_left, and_right}
use Rattle.text.proofs.RunLaws.{byte_there}
use Rattle.listing.specs.Frames.{Frame, bad, high_first, frame_of}
use Rattle.listing.specs.Witness.{name_from, default_from, is_reading, query_of}
use Rattle.frames.specs.Wanted.{wanted_of}
use Rattle.frames.specs.declared.wanted.Wanted.{Wanted}
use Rattle.std.proofs.Common.{Option, Some, None}

-- a frame that ends before its default body begins is another
short_none : (f : List ℕ) → length f < default_from f → None ≡ wanted_of f
unfolding wanted_of is_reading
short_none f h = rw (lt-leb (default_from f) (length f) h)

-- so is one of nine bytes or fewer
pub wanted_begun : (f : List ℕ) → length f ≤ 9 → None ≡ wanted_of f
unfolding default_from name_from
wanted_begun f h = short_none f (omega arith)

module _ (f : List ℕ) (g : 9 < length f) where
  -- where the length of the package stands
  name_is : 10 + get_or f 9 0 ≡ name_from f
  unfolding name_from
  name_is = rw (byte_there f 9 g)

  -- one that ends there is another
  pub wanted_named : {name : ℕ} → name ≡ 10 + get_or f 9 0 → length f ≤ name → None ≡ wanted_of f
  unfolding default_from
  wanted_named {name} e h = short_none f (omega (arith, name_is))

  module _ {name : ℕ} (e : name ≡ 10 + get_or f 9 0) (h : name < length f) where
    -- where the default body begins
    default_is : name + 1 + get_or f name 0 ≡ default_from f
    unfolding default_from
    default_is = rw (← name_is, ← e, byte_there f name h)

    -- a frame that ends before that is another
    pub wanted_short : length f < name + 1 + get_or f name 0 → None ≡ wanted_of f
    wanted_short s = short_none f (omega (arith, default_is))

    module _ (l : name + 1 + get_or f name 0 ≤ length f) where
      -- 02 reads state
      pub wanted_state : {clock : ℕ} → get_or f 0 0 ≡ 2 → clock ≡ high_first 0 (part f 1 9)
          → Some (record { clock = clock; name = name; default = name + 1 + get_or f name 0 }) ≡ wanted_of f
      unfolding wanted_of is_reading query_of
      wanted_state t k =
          rw (le-leb (default_from f) (length f) (omega (arith, default_is)), byte_there f 0 (omega arith), eq-eqb (get_or f 0 0) 2 t, k, default_is, e, name_is)

      -- another first byte does not
      pub wanted_other : (get_or f 0 0 ≡ 2 → ⊥) → None ≡ wanted_of f
      unfolding wanted_of is_reading
      wanted_other n =
          rw (le-leb (default_from f) (length f) (omega (arith, default_is)), byte_there f 0 (omega arith), ne_eqb (get_or f 0 0) 2 n)

-- what is known of a frame that reads state
pub record Reads (f : List ℕ) (clock p d : ℕ) : Type 0 where
  pub built : is_reading f ≡ true
  pub clock_is : clock ≡ (query_of f).clock
  pub name_at : p ≡ name_from f
  pub default_at : d ≡ default_from f

module _ (f : List ℕ) {k : Option Wanted} (is : k ≡ wanted_of f) where
  pub wanted_reads : {w : Wanted} → k ≡ Some w → Reads f w.clock w.name w.default
  unfolding wanted_of
  wanted_reads {w} e = go (is_reading f) refl (sym is ∙ e)
    where
      asked : Wanted
      asked = record { clock = (query_of f).clock; name = name_from f; default = default_from f }

      go : (t : Bool) → is_reading f ≡ t → pick t (Some asked) None ≡ Some w → Reads f w.clock w.name w.default
      go true h v =
          let x : asked ≡ w = cc in
          record { built = h; clock_is = sym (ap (λ (q : Wanted). q.clock) x); name_at = sym (ap (λ (q : Wanted). q.name) x); default_at = sym (ap (λ (q : Wanted). q.default) x) }
      go false h v = cc

  -- and of another
  pub wanted_none : k ≡ None → is_reading f ≡ false
  unfolding wanted_of
  wanted_none e = go (is_reading f) refl (sym is ∙ e)
    where
      asked : Wanted
      asked = record { clock = (query_of f).clock; name = name_from f; default = default_from f }

      go : (t : Bool) → is_reading f ≡ t → pick t (Some asked) None ≡ None → is_reading f ≡ false
      go true h v = cc
      go false h v = h

module _ (f : List ℕ) (h : is_reading f ≡ true) where
  -- its parts lie within it
  pub reading_within : default_from f ≤ length f
  unfolding is_reading
  reading_within = leb-true (default_from f) (length f) (and_left _ (eqb (byte_at f 0) 2) h)

  -- and the package behind the address
  pub reading_order : name_from f < default_from f
  unfolding default_from
  reading_order = omega arith

  -- the bench says bad to it
  pub reading_bad : frame_of f ≡ bad
  unfolding is_reading frame_of
  reading_bad =
      let two : byte_at f 0 ≡ 2 = eqb-true (byte_at f 0) 2 (and_right (leb (default_from f) (length f)) _ h) in
      rw two (go (ltb (length f) 9))
    where
      go : (t : Bool) → ◌≡◌ {A = Frame} (pick t bad bad) bad
      go true = refl
      go false = refl
