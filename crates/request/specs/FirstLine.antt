-- The first line of a request.
-- Rules 6.3, 6.4 of docs/RULES.md.
use Rattle.std.specs.Prelude.{ℕ, ◌+◌, Bool, ◌&&◌, List, eqb, ltb, Option, Some, None}
use Rattle.laws.specs.Choose.{pick}
use Rattle.laws.specs.Bytes.{bytes}
use Rattle.laws.specs.Lists.{byte_at, part}
use Rattle.text.specs.Class.{is_token, is_visible}
use Rattle.text.specs.Runs.{past}
use Rattle.text.specs.Names.{same_text}
use Rattle.request.specs.declared.FirstLine.{FirstLine}

-- CR LF stands at the position
unfoldable pub crlf_at : List ℕ → ℕ → Bool
crlf_at s i = eqb (byte_at s i) 13 && eqb (byte_at s (i + 1)) 10

-- behind the byte at a position stand SIP/2.0 (letters in either case) and CR LF
unfoldable pub version_at : List ℕ → ℕ → Bool
version_at s i = same_text (part s (i + 1) (i + 8)) (bytes "SIP/2.0") && crlf_at s (i + 8)

-- the line whose method ends at m and whose Request-URI ends at u is built as it must be
unfoldable pub is_first_line : List ℕ → ℕ → ℕ → Bool
is_first_line s m u =
    ltb 0 m && (eqb (byte_at s m) 32 && (ltb (m + 1) u && (eqb (byte_at s u) 32 && version_at s u)))

-- method (a token), one space, Request-URI of one or more bytes 33 to 126, one space, SIP/2.0 (letters in either case), CR LF
unfoldable pub first_line : List ℕ → Option FirstLine
first_line s =
    let m = past is_token s 0 in
    let u = past is_visible s (m + 1) in
    pick (is_first_line s m u) (Some (record { method = m; uri = u; next = u + 10 })) None
