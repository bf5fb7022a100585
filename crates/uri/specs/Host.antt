-- host = hostname / IPv4address / IPv6reference, by RFC 3261 section 25.
-- Rule 12.4 of docs/RULES.md.
use Rattle.std.specs.Prelude.{ℕ, ◌-◌, Bool, true, false, ◌&&◌, ◌||◌, List, [], ◌∷◌, eqb, leb, length}
use Rattle.laws.specs.Choose.{pick}
use Rattle.laws.specs.Lists.{byte_at, part, every, empty}
use Rattle.text.specs.Class.{is_letter}
use Rattle.text.specs.Number.{is_digits}
use Rattle.uri.specs.Classes.{is_alphanum, is_hex, is_label_byte}
use Rattle.uri.specs.Pieces.{pieces, last_piece, but_last}

-- the last byte of a text; 256 where it is empty
unfoldable pub last_byte : List ℕ → ℕ
last_byte s = byte_at s (length s - 1)

-- domainlabel = alphanum / alphanum *( alphanum / "-" ) alphanum
unfoldable pub is_label : List ℕ → Bool
is_label s = every is_label_byte s && (is_alphanum (byte_at s 0) && is_alphanum (last_byte s))

-- toplabel = ALPHA / ALPHA *( alphanum / "-" ) alphanum
unfoldable pub is_top_label : List ℕ → Bool
is_top_label s = is_label s && is_letter (byte_at s 0)

-- nothing follows, or no more than the dot that may end a hostname
unfoldable pub is_end : List (List ℕ) → Bool
is_end [] = true
is_end (p ∷ []) = empty p
is_end (p ∷ q ∷ ps) = false

-- the pieces between dots are labels, the last of them a toplabel
unfoldable pub are_labels : List (List ℕ) → Bool
are_labels [] = false
are_labels (p ∷ ps) = let r = are_labels ps in pick (is_end ps) (is_top_label p) (is_label p && r)

-- hostname = *( domainlabel "." ) toplabel [ "." ]
unfoldable pub is_hostname : List ℕ → Bool
is_hostname s = are_labels (pieces 46 s)

-- 1*3DIGIT
unfoldable pub is_octet : List ℕ → Bool
is_octet s = is_digits s && leb (length s) 3

-- IPv4address = 1*3DIGIT "." 1*3DIGIT "." 1*3DIGIT "." 1*3DIGIT
unfoldable pub is_iPv4 : List ℕ → Bool
is_iPv4 s = let ps = pieces 46 s in eqb (length ps) 4 && every is_octet ps

-- hex4 = 1*4HEXDIG
unfoldable pub is_hex4 : List ℕ → Bool
is_hex4 s = leb 1 (length s) && (leb (length s) 4 && every is_hex s)

-- what may stand behind "::", in pieces between colons: a hexseq, or nothing (one empty piece)
unfoldable pub is_behind_gap : List (List ℕ) → Bool
is_behind_gap [] = false
is_behind_gap (p ∷ ps) = is_hex4 p && every is_hex4 ps || (empty p && empty ps)

-- what may stand behind a hex4: nothing, "::" (an empty piece) and what may stand behind it, or one hex4 more
unfoldable pub is_behind_hex4 : List (List ℕ) → Bool
is_behind_hex4 [] = true
is_behind_hex4 (p ∷ ps) = let r = is_behind_hex4 ps in pick (empty p) (is_behind_gap ps) (is_hex4 p && r)

-- "::" at the front makes two empty pieces: this is the second, and what may stand behind it
unfoldable pub is_front_gap : List (List ℕ) → Bool
is_front_gap [] = false
is_front_gap (p ∷ ps) = empty p && is_behind_gap ps

-- hexpart = hexseq / hexseq "::" [ hexseq ] / "::" [ hexseq ], where hexseq = hex4 *( ":" hex4 )
unfoldable pub is_hexpart : List (List ℕ) → Bool
is_hexpart [] = false
is_hexpart (p ∷ ps) = pick (empty p) (is_front_gap ps) (is_hex4 p && is_behind_hex4 ps)

-- IPv6address = hexpart [ ":" IPv4address ]
unfoldable pub is_iPv6 : List ℕ → Bool
is_iPv6 s = let ps = pieces 58 s in is_hexpart ps || (is_iPv4 (last_piece ps) && is_hexpart (but_last ps))

-- IPv6reference = "[" IPv6address "]"
unfoldable pub is_reference : List ℕ → Bool
is_reference s = eqb (byte_at s 0) 91 && (eqb (last_byte s) 93 && is_iPv6 (part s 1 (length s - 1)))

-- host = hostname / IPv4address / IPv6reference
unfoldable pub is_host : List ℕ → Bool
is_host s = is_hostname s || (is_iPv4 s || is_reference s)
