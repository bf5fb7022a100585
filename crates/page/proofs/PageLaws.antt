-- A page after a text is put: where it has room, what writing leaves is what the definition says, and where it has none the page stays.
use mathlib.Core.Path.{◌≡◌, refl}
use mathlib.Core.Bool.{true, false}
use mathlib.Core.List.{List, [], ◌∷◌}
use Prim.Native.Nat.{ℕ, ◌+◌, ◌<◌, ◌≤◌}
use lib.Dec.{leb}
use lib.ListN.{length, drop, get_or, drop_of_length-le}
use native.Mathlib.Omega.{arith}
use Rattle.std.proofs.Common.{drop-cons, add-one}
use Rattle.laws.specs.Wrote.{Wrote}
use Rattle.text.specs.Digits.{hex_digits}
use Rattle.page.specs.Page.{Filled, put_within, pairs_on, hex_on}

module _ (p : Filled) (k : ℕ) (bs : List ℕ) where
  -- what writing leaves where there is room
  pub puts : leb (p.at + k) (length p.bytes) ≡ true → {d : List ℕ} {r : ℕ} → Wrote p.bytes p.at bs d r
      → ◌≡◌ {A = Filled} (record { bytes = d; at = r }) (put_within k p bs)
  unfolding put_within
  puts e w = rw (e, w.next, w.holds)

  -- and where there is none
  pub stays : leb (p.at + k) (length p.bytes) ≡ false → p ≡ put_within k p bs
  unfolding put_within
  stays e = rw e

-- past the last byte no pair is put
pub pairs_end : (p : Filled) (bs : List ℕ) (i : ℕ) → length bs ≤ i → pairs_on p (drop i bs) ≡ p
unfolding pairs_on
pairs_end p bs i h = rw (drop_of_length-le bs h)

-- before it the byte's own, and then those behind it
pub pairs_next : (p : Filled) (bs : List ℕ) (i : ℕ) → i < length bs
    → pairs_on p (drop i bs) ≡ pairs_on (put_within 2 p (hex_digits 2 (get_or bs i 0))) (drop (i + 1) bs)
unfolding pairs_on
pairs_next p bs i h = rw (drop-cons bs i 0 h, add-one i)

-- where there is some byte, its pairs are put
pub hex_some : (p : Filled) (bs : List ℕ) → (length bs ≡ 0 → ⊥) → hex_on p bs ≡ pairs_on p bs
unfolding hex_on
hex_some p [] n = absurd (n refl)
hex_some p (b ∷ bs) n = refl

-- and where there is none, a -
pub hex_none : (p : Filled) (bs : List ℕ) → length bs ≡ 0 → hex_on p bs ≡ hex_on p []
hex_none p [] e = refl
hex_none p (b ∷ bs) e = absurd (omega (arith, e))
