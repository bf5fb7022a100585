-- Whether every % of a text begins an escape, from a position on.
use mathlib.Core.Path.{◌≡◌, ◌∙◌, ap}
use mathlib.Core.Bool.{true, ◌&&◌}
use mathlib.Core.List.{List, ◌∷◌}
use Prim.Native.Nat.{ℕ, ◌+◌, ◌<◌, ◌≤◌}
use native.Mathlib.Numerals.{add-one}
use native.Mathlib.Omega.{arith}
use lib.ListN.{length, get_or, drop, drop_of_length-le}
use lib.Seq.{drop-cons, get_or-drop}
use borrow.Author.Tests.{eq-eqb, ne_eqb}
use Rattle.laws.specs.Lists.{byte_at}
use Rattle.uri.specs.Classes.{is_hex}
use Rattle.uri.specs.Escapes.{escapes_whole}

-- a byte of a text without its first bytes
byte_drop : (s : List ℕ) (i k n : ℕ) → i + k ≡ n → byte_at (drop i s) k ≡ byte_at s n
unfolding byte_at
byte_drop s i k n e = get_or-drop i s k 256 ∙ ap (λ (m : ℕ). get_or s m 256) e

module _ (s : List ℕ) (i : ℕ) where
  -- within the text the byte at a position stands first, and then what stands behind it
  left_first : i < length s → drop i s ≡ get_or s i 0 ∷ drop (i + 1) s
  left_first h = rw (add-one i) (drop-cons s i 0 h)

  -- a byte that is no % leaves it to the bytes behind it
  pub whole_plain : i < length s → (get_or s i 0 ≡ 37 → ⊥) → escapes_whole (drop i s) ≡ escapes_whole (drop (i + 1) s)
  unfolding escapes_whole
  whole_plain h n = rw (left_first h, ne_eqb (get_or s i 0) 37 n)

  -- behind a % it takes two hex digits too
  pub whole_escape : i < length s → get_or s i 0 ≡ 37
      → escapes_whole (drop i s) ≡ (is_hex (byte_at s (i + 1)) && is_hex (byte_at s (i + 2)) && escapes_whole (drop (i + 1) s))
  unfolding escapes_whole
  whole_escape h q =
      rw (left_first h, eq-eqb (get_or s i 0) 37 q, byte_drop s (i + 1) 0 (i + 1) (omega arith), byte_drop s (i + 1) 1 (i + 2) (omega arith))

  -- at the end nothing is left to ask
  pub whole_end : length s ≤ i → escapes_whole (drop i s) ≡ true
  unfolding escapes_whole
  whole_end h = rw (drop_of_length-le s h)
