-- What the first line and the header lines of a request say, and when the request is readable.
-- Rules 2.2, 6.8, 6.10, 6.11, 6.17 of docs/RULES.md.
use Rattle.std.specs.Prelude.{ℕ, ◌+◌, Bool, true, false, ◌&&◌, not, List, [], ◌∷◌, map, eqb, ltb, get_or, replicate, Option, Some, None}
use Rattle.laws.specs.Lists.{part, those}
use Rattle.request.specs.FirstLine.{first_line}
use Rattle.request.specs.HeaderLines.{Headers, headers, unreadable, header_lines, name_of, value_of}
use Rattle.request.specs.Names.{Via, From, To, Call-ID, CSeq, name_number}
use Rattle.request.specs.To.{to_value}
use Rattle.request.specs.declared.FirstLine.{FirstLine}
use Rattle.request.specs.declared.Line.{Line}
use Rattle.request.specs.declared.Seen.{Seen}
use Rattle.request.specs.declared.Head.{Head}
use Rattle.request.specs.declared.ToValue.{ToValue}
use Rattle.request.specs.declared.ToValue.TheVariants.{Tagged, Untagged, Unclosed}

abbrev pub zero_line : Line
zero_line = record { start = 0; name = 0; colon = 0; end = 0 }

abbrev pub zero_seen : Seen
zero_seen = record { times = 0; line = zero_line }

unfoldable pub lines_in : Headers → List Line
lines_in (headers ls rest) = ls
lines_in unreadable = []

unfoldable pub lines_after : List ℕ → Option FirstLine → List Line
lines_after s (Some f) = lines_in (header_lines 64 s f.next)
lines_after s None = []

-- the header lines of a request; none where they cannot be read
unfoldable pub lines_of : List ℕ → List Line
lines_of s = lines_after s (first_line s)

-- the lines of that name, in their order
unfoldable pub lines_named : ℕ → List ℕ → List Line → List Line
lines_named n s ls = those (λ l. eqb (name_number (name_of s l)) n) ls

-- some lines of one name: none, one, or more than one; and the first of them
unfoldable pub seen_in : List Line → Seen
seen_in [] = zero_seen
seen_in (l ∷ []) = record { times = 1; line = l }
seen_in (l ∷ m ∷ ls) = record { times = 2; line = l }

-- the numbers of our ten names, and that of any other
abbrev pub numbers : List ℕ
numbers = 0 ∷ 1 ∷ 2 ∷ 3 ∷ 4 ∷ 5 ∷ 6 ∷ 7 ∷ 8 ∷ 9 ∷ 10 ∷ []

-- which names stand how often
unfoldable pub seen_of : List ℕ → List Line → List Seen
seen_of s ls = map (λ n. seen_in (lines_named n s ls)) numbers

-- one whose first line or header lines cannot be read
abbrev pub not_built : Head
not_built = record { built = false; method = 0; uri = 0; rest = 0; seen = replicate 11 zero_seen }

unfoldable pub with_headers : List ℕ → ℕ → ℕ → Headers → Head
with_headers s m u (headers ls rest) = record { built = true; method = m; uri = u; rest = rest; seen = seen_of s ls }
with_headers s m u unreadable = not_built

unfoldable pub with_first_line : List ℕ → Option FirstLine → Head
with_first_line s (Some f) = with_headers s f.method f.uri (header_lines 64 s f.next)
with_first_line s None = not_built

-- first line, at most 64 header lines, an empty line
unfoldable pub head_of : List ℕ → Head
head_of s = with_first_line s (first_line s)

-- the method
unfoldable pub method_of : List ℕ → Head → List ℕ
method_of s h = part s 0 h.method

-- the Request-URI
unfoldable pub uri_of : List ℕ → Head → List ℕ
uri_of s h = part s (h.method + 1) h.uri

-- how often that name stands, and its first line
unfoldable pub seen_at : ℕ → Head → Seen
seen_at n h = get_or h.seen n zero_seen

unfoldable pub absent : ℕ → Head → Bool
absent n h = eqb (seen_at n h).times 0

unfoldable pub once : ℕ → Head → Bool
once n h = eqb (seen_at n h).times 1

unfoldable pub repeated : ℕ → Head → Bool
repeated n h = ltb 1 (seen_at n h).times

-- the value of the first line of that name; empty where there is none
unfoldable pub value_named : ℕ → List ℕ → Head → List ℕ
value_named n s h = value_of s (seen_at n h).line

unfoldable pub is_closed : ToValue → Bool
is_closed Tagged = true
is_closed Untagged = true
is_closed Unclosed = false

-- Via stands at least once, From, To, Call-ID and CSeq exactly once
unfoldable pub stand_as_they_must : Head → Bool
stand_as_they_must h = not (absent Via h) && (once From h && (once To h && (once Call-ID h && once CSeq h)))

-- readable: built as above, the names stand as they must, and no quote or < of To is unclosed
unfoldable pub is_readable : List ℕ → Head → Bool
is_readable s h = h.built && (stand_as_they_must h && is_closed (to_value (value_named To s h)))
