-- The laws of a line: its frame is that of its bytes, and the front that its buffer holds says the same.
use mathlib.Core.Path.{◌≡◌, refl, sym, ◌∙◌, ap}
use mathlib.Core.Bool.{Bool, true, false}
use mathlib.Core.List.{List, []}
use Prim.Native.Nat.{ℕ, ◌≤◌}
use native.Mathlib.Decide.{dec_le}
use native.Mathlib.Omega.{arith}
use lib.ListN.{length, take}
use lib.Seq.{take_all, length-take-le}
use Rattle.laws.specs.Choose.{pick}
use Rattle.laws.specs.Lists.{part}
use Rattle.laws.specs.Wrote.{Wrote}
use Rattle.laws.proofs.Wrote.{wrote_part}
use Rattle.listing.specs.Frames.{bad, is_hex, hex_bytes, frame_of, line_frame}
use Rattle.frames.specs.Lines.{line_bytes}
use Rattle.frames.proofs.HexLaws.{hex_long}

-- the frame of a line's bytes is the line's
pub line_frame_lem : (l : List ℕ) → frame_of (line_bytes l) ≡ line_frame l
unfolding frame_of line_frame line_bytes
line_frame_lem l = go (is_hex l)
  where
    go : (b : Bool) → frame_of (pick b (hex_bytes l) []) ≡ pick b (frame_of (hex_bytes l)) bad
    go true = refl
    go false = refl

-- and so is that of the front of a buffer that they were put to
pub decoded_frame : (l : List ℕ) {d d' p : List ℕ} {n : ℕ} → Wrote d 0 (line_bytes l) d' n → p ≡ part d' 0 n → frame_of p ≡ line_frame l
decoded_frame l w e = ap frame_of (e ∙ wrote_part w) ∙ line_frame_lem l

-- a line that is too long is bad
long_bad : (l : List ℕ) → 8211 ≤ length l → line_frame l ≡ bad
unfolding line_frame
long_bad l h = rw (hex_long l (omega arith))

-- of a line of any length the front of 8,211 bytes has the same frame
pub front_frame : (l : List ℕ) → line_frame (take 8211 l) ≡ line_frame l
front_frame l = go (dec_le (length l) 8211)
  where
    go : Dec (length l ≤ 8211) → line_frame (take 8211 l) ≡ line_frame l
    go (yes h) = ap line_frame (take_all 8211 l h)
    go (no h) =
        let n : length (take 8211 l) ≡ 8211 = length-take-le 8211 l (omega arith) in
        long_bad (take 8211 l) (omega arith) ∙ sym (long_bad l (omega arith))
