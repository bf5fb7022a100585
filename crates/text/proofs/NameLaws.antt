-- The laws of texts compared in either case: by their lengths, and for texts of one length from a position on.
use mathlib.Core.Path.{◌≡◌, refl, sym, ◌∙◌, ap}
use mathlib.Core.Bool.{true, false}
use mathlib.Core.List.{List, [], ◌∷◌}
use Prim.Native.Nat.{ℕ, suc, ◌+◌, ◌<◌, ◌≤◌}
use native.Mathlib.Numerals.{add-one}
use lib.ListN.{length, get_or, drop, drop_of_length-le}
use lib.Seq.{drop-cons}
use borrow.Author.Tests.{eq-eqb, ne_eqb}
use Rattle.laws.specs.Lists.{same}
use Rattle.text.specs.Names.{lower, lowered, same_text}
use Rattle.text.proofs.SameLaws.{same_other}

-- a text with every capital made small is as long as it was
lowered_length : (s : List ℕ) → length (lowered s) ≡ length s
unfolding lowered
lowered_length [] = refl
lowered_length (x ∷ xs) = ap suc (lowered_length xs)

-- texts of other lengths are not the same
pub text_other : (s t : List ℕ) → (length s ≡ length t → ⊥) → same_text s t ≡ false
unfolding same_text
text_other s t h = same_other (lowered s) (lowered t) (λ e. h (sym (lowered_length s) ∙ e ∙ lowered_length t))

module _ (s t : List ℕ) (l : length s ≡ length t) (i : ℕ) where
  module _ (h : i < length s) (a b : ℕ) (ea : a ≡ lower (get_or s i 0)) (eb : b ≡ lower (get_or t i 0)) where
    -- their next bytes differ
    pub text_off : (a ≡ b → ⊥) → same_text (drop i s) (drop i t) ≡ false
    unfolding same_text lowered same
    text_off n = rw (drop-cons s i 0 h, drop-cons t i 0 (rw l at h), ← ea, ← eb, ne_eqb a b n)

    -- their next bytes are the same
    pub text_on : a ≡ b → same_text (drop i s) (drop i t) ≡ same_text (drop (i + 1) s) (drop (i + 1) t)
    unfolding same_text lowered same
    text_on n = rw (add-one i, drop-cons s i 0 h, drop-cons t i 0 (rw l at h), ← ea, ← eb, eq-eqb a b n)

  -- at the end they are the same
  pub text_end_lem : length s ≤ i → same_text (drop i s) (drop i t) ≡ true
  unfolding same_text lowered same
  text_end_lem h = rw (drop_of_length-le s h, drop_of_length-le t (rw l at h))

-- what the comparison goes by
pub ruleset text_steps = (text_other, text_off, text_on, text_end_lem)
