-- The laws of a frame: what its first byte and its length settle.
use mathlib.Core.Path.{◌≡◌}
use mathlib.Core.List.{List}
use Rattle.std.proofs.Common.{Some, None}
use Prim.Native.Nat.{ℕ, ◌-◌, ◌<◌, ◌≤◌}
use native.Mathlib.Omega.{arith}
use lib.ListN.{length, get_or, drop, length-drop}
use lib.Seq.{take_all}
use borrow.Author.Tests.{lt-ltb, le-ltb, eq-eqb, ne_eqb}
use Rattle.laws.specs.Lists.{byte_at, part}
use Rattle.text.proofs.RunLaws.{byte_there}
use Rattle.listing.specs.Frames.{high_first, add_frame, handle_frame, frame_of}
use Rattle.frames.specs.Asked.{frame_with}
use Rattle.frames.specs.declared.frame.Asked.TheVariants.{Adds, Handles}

-- fewer than nine bytes are no frame
pub frame_short : (f : List ℕ) → length f < 9 → frame_with None (drop 9 f) ≡ frame_of f
unfolding frame_with frame_of
frame_short f h = rw (lt-ltb (length f) 9 h)

module _ (f : List ℕ) (h : 9 ≤ length f) where
  -- the first byte of nine is there
  first : byte_at f 0 ≡ get_or f 0 0
  first = byte_there f 0 (omega arith)

  -- 00 adds
  pub frame_adds : {start spent : ℕ} → get_or f 0 0 ≡ 0 → start ≡ high_first 0 (part f 1 5) → spent ≡ high_first 0 (part f 5 9)
      → frame_with (Some (Adds start spent)) (drop 9 f) ≡ frame_of f
  unfolding frame_with frame_of add_frame
  frame_adds e p q = rw (le-ltb (length f) 9 h, first, eq-eqb (get_or f 0 0) 0 e, p, q)

  module _ (n : get_or f 0 0 ≡ 0 → ⊥) where
    -- 01 handles
    pub frame_handles : {clock : ℕ} → get_or f 0 0 ≡ 1 → clock ≡ high_first 0 (part f 1 9)
        → frame_with (Some (Handles clock)) (drop 9 f) ≡ frame_of f
    unfolding frame_with frame_of handle_frame
    frame_handles e p = rw (le-ltb (length f) 9 h, first, ne_eqb (get_or f 0 0) 0 n, eq-eqb (get_or f 0 0) 1 e, p)

    -- another first byte is no frame
    pub frame_other : (get_or f 0 0 ≡ 1 → ⊥) → frame_with None (drop 9 f) ≡ frame_of f
    unfolding frame_with frame_of
    frame_other m = rw (le-ltb (length f) 9 h, first, ne_eqb (get_or f 0 0) 0 n, ne_eqb (get_or f 0 0) 1 m)

-- what stands from the ninth byte to the end is all that is left
pub rest_is : (f : List ℕ) → part f 9 (length f) ≡ drop 9 f
unfolding part
rest_is f = take_all (length f - 9) (drop 9 f) (omega (arith, length-drop 9 f))
