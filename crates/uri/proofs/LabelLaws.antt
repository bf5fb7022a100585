-- A run of label bytes: its first and its last byte tell what it is.
use mathlib.Core.Path.{◌≡◌, refl, ◌∙◌}
use mathlib.Core.Bool.{Bool, true, false, ◌&&◌}
use mathlib.Core.List.{List, []}
use Prim.Native.Nat.{ℕ, ◌+◌, ◌-◌, ◌<◌, ◌≤◌}
use native.Mathlib.Nat.{add-zero}
use native.Mathlib.Decide.{dec_lt}
use native.Mathlib.Omega.{arith}
use lib.ListN.{length, get_or, drop}
use Rattle.laws.specs.Choose.{pick}
use Rattle.laws.specs.Lists.{byte_at, part, every}
use Rattle.laws.proofs.Parts.{part_length, part_at_lem, part_none}
use Rattle.text.specs.Class.{is_letter}
use Rattle.text.specs.Runs.{past}
use Rattle.text.proofs.RunLaws.{get_d_any, past_end, past_within}
use Rattle.uri.specs.Classes.{is_alphanum, is_label_byte}
use Rattle.uri.specs.Host.{last_byte, is_label, is_top_label}
use Rattle.uri.specs.Parts.{label_of}
use Rattle.uri.specs.All.{all_uri}
use Rattle.uri.specs.declared.host.Label.{Label}
use Rattle.uri.proofs.PastLaws.{part_run, every_front}

-- no text is no label
label_none : is_label [] ≡ false
unfolding all_uri
label_none = refl

-- and no toplabel
pub top_none : is_top_label [] ≡ false
unfolding all_uri
top_none = refl

-- what a label's first and last byte say, and whether the first is a letter
abbrev told : Bool → Bool → Bool → Label
told first last letter =
    pick first (pick last (record { fits = true; top = letter }) (record { fits = false; top = false })) (record { fits = false; top = false })

-- no byte is no label
pub no_label : (s : List ℕ) (i e : ℕ) → e ≤ i → label_of (part s i e) ≡ record { fits = false; top = false }
unfolding label_of
no_label s i e h = rw (part_none s i e h, label_none, top_none)

-- a run of label bytes that is not empty
module _ (s : List ℕ) (i e : ℕ) (p : e ≡ past is_label_byte s i) (h : i < e) where
  -- it begins in the text
  pub run_begins : i < length s
  run_begins = go (dec_lt i (length s))
    where
      go : Dec (i < length s) → i < length s
      go (yes q) = q
      go (no q) = absurd (omega (arith, past_end is_label_byte s i (omega arith)))

  -- and ends in it
  pub run_ends : e ≤ length s
  run_ends = omega (arith, past_within is_label_byte s i (omega (arith, run_begins)))

  -- its first byte
  first_byte : byte_at (part s i e) 0 ≡ get_or s i 0
  unfolding byte_at
  first_byte = part_at_lem s i e 0 256 (omega arith) ∙ rw add-zero (get_d_any s i 256 0 run_begins)

  -- its last byte
  last_byte_lem : last_byte (part s i e) ≡ get_or s (e - 1) 0
  unfolding last_byte byte_at
  last_byte_lem =
      rw (part_length s i e (omega arith) run_ends)
      (part_at_lem s i e (e - i - 1) 256 (omega arith) ∙ rw place (get_d_any s (e - 1) 256 0 (omega (arith, run_ends))))
    where
      place : i + (e - i - 1) ≡ e - 1
      place = omega arith

  -- the two tell what it is
  pub label_told : label_of (part s i e) ≡ told (is_alphanum (get_or s i 0)) (is_alphanum (get_or s (e - 1) 0)) (is_letter (get_or s i 0))
  unfolding label_of is_label is_top_label
  label_told = rw (every_part, first_byte, last_byte_lem) (go (is_alphanum (get_or s i 0)) (is_alphanum (get_or s (e - 1) 0)) (is_letter (get_or s i 0)))
    where
      every_part : every is_label_byte (part s i e) ≡ true
      every_part = rw (part_run is_label_byte s i e p) (every_front is_label_byte (drop i s))

      go : (x y z : Bool) → record { fits = x && y; top = (x && y) && z } ≡ told x y z
      go true true z = refl
      go true false z = refl
      go false y z = refl
