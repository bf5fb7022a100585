-- The groups of an IPv6 address, read one by one, and the brackets round them.
use mathlib.Core.Path.{◌≡◌, refl, ◌∙◌, ap₂}
use mathlib.Core.Bool.{Bool, true, false, ◌&&◌, ◌||◌, or-false}
use mathlib.Core.List.{List, [], ◌∷◌}
use Prim.Native.Nat.{ℕ, ◌-◌, ◌<◌, ◌≤◌}
use native.Mathlib.Omega.{arith}
use lib.Dec.{eqb}
use lib.ListN.{length, get_or}
use borrow.Author.Tests.{eqb-true, eq-eqb, ne_eqb}
use Rattle.laws.specs.Lists.{byte_at, part, every, empty}
use Rattle.text.proofs.RunLaws.{byte_there}
use Rattle.uri.specs.Pieces.{pieces, last_piece, but_last}
use Rattle.uri.specs.Host.{is_iPv4, is_hex4, is_behind_gap, is_behind_hex4, is_front_gap, is_hexpart, last_byte, is_iPv6, is_reference}
use Rattle.uri.specs.Groups.{stepped, may_end}
use Rattle.uri.specs.declared.groups.Place.{Place}
use Rattle.uri.specs.declared.groups.Place.TheVariants.{Begin, Front, Behind, Gap, After, Closed, Wrong}
use Rattle.uri.proofs.PieceLaws.{pieces_some}

-- what may stand from a place on
abbrev rest : Place → List (List ℕ) → Bool
rest Begin ps = is_hexpart ps
rest Front ps = is_front_gap ps
rest Behind ps = is_behind_hex4 ps
rest Gap ps = is_behind_gap ps
rest After ps = every is_hex4 ps
rest Closed ps = empty ps
rest Wrong ps = false

-- an empty group is no hex4
hex_none : is_hex4 [] ≡ false
unfolding is_hex4
hex_none = refl

-- one group more: what may stand from the place where it leads
rest_on : (k : Place) (p : List ℕ) (ps : List (List ℕ)) → rest k (p ∷ ps) ≡ rest (stepped k p) ps
unfolding is_hexpart is_front_gap is_behind_hex4 is_behind_gap every empty stepped
rest_on Begin [] ps = refl
rest_on Front [] ps = refl
rest_on Behind [] ps = refl
rest_on Gap [] ps = rw hex_none
rest_on After [] ps = rw hex_none
rest_on Closed [] ps = refl
rest_on Wrong [] ps = refl
rest_on k (x ∷ xs) ps = go k (is_hex4 (x ∷ xs)) refl
  where
    go : (k : Place) (b : Bool) → is_hex4 (x ∷ xs) ≡ b → rest k ((x ∷ xs) ∷ ps) ≡ rest (stepped k (x ∷ xs)) ps
    go Begin true e = rw e
    go Begin false e = rw e
    go Front true e = rw e
    go Front false e = rw e
    go Behind true e = rw e
    go Behind false e = rw e
    go Gap true e = rw e (or-false (every is_hex4 ps))
    go Gap false e = rw e
    go After true e = rw e
    go After false e = rw e
    go Closed b e = refl
    go Wrong b e = refl

-- no group more
rest_end : (k : Place) → rest k [] ≡ may_end k
unfolding is_hexpart is_front_gap is_behind_hex4 is_behind_gap every empty may_end
rest_end Begin = refl
rest_end Front = refl
rest_end Behind = refl
rest_end Gap = refl
rest_end After = refl
rest_end Closed = refl
rest_end Wrong = refl

-- the same with an IPv4 address that may stand as the last group
abbrev pub groups : Place → List (List ℕ) → Bool
groups k ps = rest k ps || (is_iPv4 (last_piece ps) && rest k (but_last ps))

-- what is left to read, from a place on; where nothing is, the place decides, or the last group and the place before it
abbrev pub left_groups : Place → Place → List ℕ → List (List ℕ) → Bool
left_groups k before last [] = may_end k || (is_iPv4 last && may_end before)
left_groups k before last (p ∷ ps) = groups k (p ∷ ps)

-- at the begin all of it is
pub groups_begin : (c : ℕ) (s : List ℕ) (k before : Place) (last : List ℕ) → groups k (pieces c s) ≡ left_groups k before last (pieces c s)
groups_begin c s k before last = go (pieces c s) (pieces_some c s)
  where
    go : (ps : List (List ℕ)) → 0 < length ps → groups k ps ≡ left_groups k before last ps
    go [] h = absurd (omega arith)
    go (p ∷ ps) h = refl

-- one group more
pub groups_step : (k before : Place) (last p : List ℕ) (ps : List (List ℕ)) → left_groups k before last (p ∷ ps) ≡ left_groups (stepped k p) k p ps
unfolding last_piece but_last
groups_step k before last p [] = ap₂ (λ a b. a || (is_iPv4 p && b)) (rest_on k p [] ∙ rest_end (stepped k p)) (rest_end k)
groups_step k before last p (q ∷ ps) =
    ap₂ (λ a b. a || (is_iPv4 (last_piece (q ∷ ps)) && b)) (rest_on k p (q ∷ ps)) (rest_on k p (but_last (q ∷ ps)))

-- a text too short for two brackets is no reference
pub reference_short : (s : List ℕ) → length s < 2 → is_reference s ≡ false
unfolding is_reference last_byte byte_at
reference_short [] h = refl
reference_short (x ∷ []) h = go (eqb x 91) refl
  where
    go : (b : Bool) → eqb x 91 ≡ b → is_reference (x ∷ []) ≡ false
    go true e = rw (eqb-true x 91 e)
    go false e = rw e
reference_short (x ∷ y ∷ s) h = absurd (omega arith)

-- another, by its first and its last byte
module _ (s : List ℕ) (h : 2 ≤ length s) where
  -- its first byte
  first : byte_at s 0 ≡ get_or s 0 0
  first = byte_there s 0 (omega arith)

  -- its last byte
  last : last_byte s ≡ get_or s (length s - 1) 0
  unfolding last_byte
  last = byte_there s (length s - 1) (omega arith)

  -- no [ in front
  pub reference_other : (get_or s 0 0 ≡ 91 → ⊥) → is_reference s ≡ false
  unfolding is_reference
  reference_other n = rw (first, ne_eqb (get_or s 0 0) 91 n)

  module _ (e : get_or s 0 0 ≡ 91) where
    -- no ] at the end
    pub reference_bare : (get_or s (length s - 1) 0 ≡ 93 → ⊥) → is_reference s ≡ false
    unfolding is_reference
    reference_bare n = rw (first, eq-eqb (get_or s 0 0) 91 e, last, ne_eqb (get_or s (length s - 1) 0) 93 n)

    -- both: what stands between them tells
    pub reference_is : get_or s (length s - 1) 0 ≡ 93 → is_reference s ≡ is_iPv6 (part s 1 (length s - 1))
    unfolding is_reference
    reference_is q = rw (first, eq-eqb (get_or s 0 0) 91 e, last, eq-eqb (get_or s (length s - 1) 0) 93 q)
