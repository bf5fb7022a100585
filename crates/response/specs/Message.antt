-- The message, byte by byte.
-- Rules 9.1 to 9.6 of docs/RULES.md.
use Rattle.std.specs.Prelude.{ℕ, List, [], ◌∷◌, ◌++◌}
use Rattle.laws.specs.Bytes.{bytes}
use Rattle.text.specs.Digits.{decimal_of, eight_hex}
use Rattle.request.specs.HeaderLines.{bare_line, whole_line, copied, value_of}
use Rattle.request.specs.To.{to_value}
use Rattle.request.specs.Names.{Via, From, To, Call-ID, CSeq}
use Rattle.request.specs.Head.{lines_of, lines_named}
use Rattle.request.specs.declared.Line.{Line}
use Rattle.request.specs.declared.ToValue.{ToValue}
use Rattle.request.specs.declared.ToValue.TheVariants.{Tagged, Untagged, Unclosed}
use Rattle.response.specs.Outcomes.{crlf, phrase_of, status_of, our_field, field_lines}
use Rattle.response.specs.declared.Outcome.{Outcome}

-- status line: SIP/2.0, code and phrase, one space between
unfoldable pub status_line : ℕ → List ℕ
status_line code = bytes "SIP/2.0 " ++ (decimal_of code ++ (bytes " " ++ (phrase_of code ++ crlf)))

-- the To line as it came if it has a tag; otherwise with ";tag=" and eight hex digits of the number added before its CR LF
unfoldable pub tagged_line : ToValue → List ℕ → ℕ → Line → List ℕ
tagged_line Tagged s number l = whole_line s l
tagged_line Untagged s number l = bare_line s l ++ (bytes ";tag=" ++ (eight_hex number ++ crlf))
tagged_line Unclosed s number l = whole_line s l

unfoldable pub to_lines : List ℕ → ℕ → List Line → List ℕ
to_lines s number [] = []
to_lines s number (l ∷ ls) = tagged_line (to_value (value_of s l)) s number l ++ to_lines s number ls

-- all Via lines in their order, then From, To, Call-ID, CSeq
unfoldable pub echoed : List ℕ → List Line → ℕ → List ℕ
echoed s ls number =
    copied s (lines_named Via s ls)
    ++ (copied s (lines_named From s ls)
    ++ (to_lines s number (lines_named To s ls) ++ (copied s (lines_named Call-ID s ls) ++ copied s (lines_named CSeq s ls))))

-- status line; the lines of the request; the fields; Content-Length: 0; an empty line
unfoldable pub message : List ℕ → ℕ → Outcome → List ℕ
message s number o =
    status_line (status_of o)
    ++ (echoed s (lines_of s) number ++ (field_lines o ++ (our_field (bytes "Content-Length") (bytes "0") ++ crlf)))
