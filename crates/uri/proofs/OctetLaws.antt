-- The numbers of an IPv4 address, read one by one.
use mathlib.Core.Path.{◌≡◌, refl, sym, ◌∙◌, ap}
use mathlib.Core.Bool.{Bool, true, false, ◌&&◌, and_comm, and-false}
use mathlib.Core.List.{List, [], ◌∷◌}
use Prim.Native.Nat.{ℕ, suc, ◌-◌}
use native.Mathlib.Omega.{arith}
use lib.Dec.{eqb, leb}
use lib.ListN.{length}
use borrow.Author.Tests.{eqb-true, eqb-false, eq-eqb, ne_eqb, le-leb}
use Rattle.laws.specs.Lists.{every, empty}
use Rattle.text.specs.Class.{is_digit}
use Rattle.text.specs.Number.{is_digits}
use Rattle.uri.specs.Host.{is_octet}

-- two comparisons that hold together give the same answer
eqb_alike : (a b c d : ℕ) → (a ≡ b → c ≡ d) → (c ≡ d → a ≡ b) → eqb a b ≡ eqb c d
eqb_alike a b c d f g = go (eqb a b) refl
  where
    go : (t : Bool) → eqb a b ≡ t → eqb a b ≡ eqb c d
    go true e = e ∙ sym (eq-eqb c d (f (eqb-true a b e)))
    go false e = e ∙ sym (ne_eqb c d (λ q. eqb-false a b e (g q)))

-- one to three digits
pub octet_is : (s : List ℕ) → (leb 1 (length s) && (leb (length s) 3 && every is_digit s)) ≡ is_octet s
unfolding is_octet is_digits empty
octet_is [] = refl
octet_is (x ∷ xs) = rw (le-leb 1 (length (x ∷ xs)) (omega arith)) (and_comm (leb (length (x ∷ xs)) 3) (every is_digit (x ∷ xs)))

-- so many pieces, each of one to three digits
abbrev pub octets : ℕ → List (List ℕ) → Bool
octets n ps = eqb (length ps) n && every is_octet ps

-- none is left
pub octets_end : (n : ℕ) → octets n [] ≡ eqb n 0
unfolding every
octets_end n = and_comm (eqb 0 n) true ∙ eqb_alike 0 n n 0 sym sym

module _ (n : ℕ) (p : List ℕ) (ps : List (List ℕ)) where
  -- one too many
  pub octets_none : n ≡ 0 → octets n (p ∷ ps) ≡ false
  octets_none e = rw (ne_eqb (length (p ∷ ps)) n (λ q. omega (arith, q)))

  -- one that is no number
  pub octets_off : is_octet p ≡ false → octets n (p ∷ ps) ≡ false
  unfolding every
  octets_off w = rw w (and-false (eqb (length (p ∷ ps)) n))

  -- a number, and others behind it
  pub octets_on : (n ≡ 0 → ⊥) → is_octet p ≡ true → octets n (p ∷ ps) ≡ octets (n - 1) ps
  unfolding every
  octets_on h w =
      rw w (ap (λ t. t && every is_octet ps) (eqb_alike (suc (length ps)) n (length ps) (n - 1) (λ q. omega arith) (λ q. omega arith)))
