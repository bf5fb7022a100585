-- The bench's input: lines of hexadecimal in either case, one frame a line.
-- Rules 11.1 to 11.4 of docs/RULES.md.
use Rattle.std.specs.Prelude.{ℕ, ◌+◌, ◌*◌, ◌%◌, Bool, ◌&&◌, List, [], ◌∷◌, eqb, ltb, leb, length, drop}
use Rattle.laws.specs.Choose.{pick}
use Rattle.laws.specs.Lists.{every, byte_at, part}
use Rattle.text.specs.Digits.{hex_value}
use Rattle.table.specs.Add.{Entry}
use Rattle.table.specs.Handle.{Input}

-- a byte more in front of the first line
unfoldable pub in_front : ℕ → List (List ℕ) → List (List ℕ)
in_front b [] = (b ∷ []) ∷ []
in_front b (l ∷ ls) = (b ∷ l) ∷ ls

-- the lines of the input: a line ends at LF, and a last line without LF is a line
unfoldable pub lines_of : List ℕ → List (List ℕ)
lines_of [] = []
lines_of (b ∷ bs) = let ls = lines_of bs in pick (eqb b 10) ([] ∷ ls) (in_front b ls)

-- the line is hex digits, two for each byte, at most 8,210 of them
unfoldable pub is_hex : List ℕ → Bool
is_hex l = every (λ b. ltb (hex_value b) 16) l && (eqb (length l % 2) 0 && leb (length l) 8210)

-- the bytes that pairs of hex digits make
unfoldable pub hex_bytes : List ℕ → List ℕ
hex_bytes [] = []
hex_bytes (a ∷ []) = []
hex_bytes (a ∷ b ∷ l) = (hex_value a * 16 + hex_value b) ∷ hex_bytes l

-- a number of some bytes, high first, behind the number v
unfoldable pub high_first : ℕ → List ℕ → ℕ
high_first v [] = v
high_first v (b ∷ bs) = high_first (v * 256 + b) bs

-- what a line asks for
pub data Frame : Type 0 where
  adds : Entry → Frame
  handles : Input → Frame
  bad : Frame

-- 00, start (4 bytes, high first), spent (4), address
unfoldable pub add_frame : List ℕ → Entry
add_frame f = record { address = drop 9 f; start = high_first 0 (part f 1 5); spent = high_first 0 (part f 5 9) }

-- 01, clock (8), request; To number 1
unfoldable pub handle_frame : List ℕ → Input
handle_frame f = record { clock = high_first 0 (part f 1 9); number = 1; request = drop 9 f }

-- the frame of some bytes: one that has fewer than 9 of them or another first byte is not so built
unfoldable pub frame_of : List ℕ → Frame
frame_of f =
    let other = pick (eqb (byte_at f 0) 1) (handles (handle_frame f)) bad in
    let built = pick (eqb (byte_at f 0) 0) (adds (add_frame f)) other in
    pick (ltb (length f) 9) bad built

-- the frame of a line
unfoldable pub line_frame : List ℕ → Frame
line_frame l = let f = frame_of (hex_bytes l) in pick (is_hex l) f bad
