-- The header lines of a request and the empty line that ends them.
-- Rules 6.5 to 6.8, 9.3 of docs/RULES.md.
use Rattle.std.specs.Prelude.{ℕ, zero, suc, ◌+◌, ◌&&◌, List, [], ◌∷◌, ◌++◌, eqb, ltb, Option, Some, None}
use Rattle.laws.specs.Choose.{pick}
use Rattle.laws.specs.Lists.{byte_at, part}
use Rattle.text.specs.Class.{is_token, is_blank, is_value}
use Rattle.text.specs.Runs.{past, trim}
use Rattle.request.specs.FirstLine.{crlf_at}
use Rattle.request.specs.declared.Line.{Line}

-- a token, spaces or tabs or none, a colon, the value, CR LF (so none begins with a space or tab)
unfoldable pub header_line : List ℕ → ℕ → Option Line
header_line s at =
    let name = past is_token s at in
    let colon = past is_blank s name in
    let end = past is_value s (colon + 1) in
    pick (ltb at name && (eqb (byte_at s colon) 58 && crlf_at s end))
    (Some (record { start = at; name = name; colon = colon; end = end }))
    None

-- the name of a line
unfoldable pub name_of : List ℕ → Line → List ℕ
name_of s l = part s l.start l.name

-- the value of a line: outer spaces and tabs are not part of it
unfoldable pub value_of : List ℕ → Line → List ℕ
value_of s l = trim (part s (l.colon + 1) l.end)

-- a line as it came, without its CR LF
unfoldable pub bare_line : List ℕ → Line → List ℕ
bare_line s l = part s l.start l.end

-- a line as it came
unfoldable pub whole_line : List ℕ → Line → List ℕ
whole_line s l = part s l.start (l.end + 2)

-- lines copied as they came, in their order
unfoldable pub copied : List ℕ → List Line → List ℕ
copied s [] = []
copied s (l ∷ ls) = whole_line s l ++ copied s ls

-- the header lines, and where what follows the empty line begins; or that they cannot be read
pub data Headers : Type 0 where
  headers : List Line → ℕ → Headers
  unreadable : Headers

-- one line more in front
unfoldable pub behind : Line → Headers → Headers
behind l (headers ls body) = headers (l ∷ ls) body
behind l unreadable = unreadable

-- the lines from one that was looked for, and from what follows it
unfoldable pub from_line : (ℕ → Headers) → Option Line → Headers
from_line rest (Some l) = behind l (rest (l.end + 2))
from_line rest None = unreadable

-- the header lines from a position, at most so many; an empty line ends them
unfoldable pub header_lines : ℕ → List ℕ → ℕ → Headers
header_lines zero s at = pick (crlf_at s at) (headers [] (at + 2)) unreadable
header_lines (suc k) s at =
    let more = from_line (header_lines k s) (header_line s at) in
    pick (crlf_at s at) (headers [] (at + 2)) more
