-- The laws of going through the header lines once more: the Via lines from a position on are that of the line there, and those behind it.
use mathlib.Core.Path.{◌≡◌, refl, sym, ◌∙◌}
use mathlib.Core.Bool.{Bool, true, false}
use mathlib.Core.List.{List, [], ◌∷◌, ◌++◌, append-nil}
use Prim.Native.Nat.{ℕ, zero, suc, ◌+◌, ◌<◌, ◌≤◌}
use native.Mathlib.Omega.{arith}
use lib.ListN.{length}
use Rattle.std.specs.Prelude.{MatchOption, ⊤}
use Rattle.std.proofs.Common.{Option, Some, None}
use Rattle.laws.specs.Lists.{byte_at, any, those}
use Rattle.laws.proofs.Puts.{put_none}
use Rattle.text.specs.Class.{is_letter, is_digit, is_token}
use Rattle.text.specs.Runs.{past}
use Rattle.text.proofs.RunLaws.{byte_there, byte_within, past_off}
use Rattle.request.specs.declared.FirstLine.{FirstLine}
use Rattle.request.specs.declared.Line.{Line}
use Rattle.request.specs.FirstLine.{crlf_at, first_line}
use Rattle.request.specs.HeaderLines.{header_line, copied, Headers, headers, unreadable, behind, from_line, header_lines}
use Rattle.request.specs.Names.{Via}
use Rattle.request.specs.Head.{lines_in, lines_after, lines_of, lines_named, with_headers, with_first_line, head_of}
use Rattle.request.proofs.LineLaws.{first_line_within, header_line_within}
use Rattle.response.proofs.MessageLaws.{in_a_row}

-- the bytes of the Via lines among some lines
abbrev vias : List ℕ → List Line → List ℕ
vias s ls = copied s (lines_named Via s ls)

-- the header lines can be read
unfoldable pub are_read : Headers → Bool
are_read (headers ls rest) = true
are_read unreadable = false

-- from a position on header lines stand, and behind them the empty line
unfoldable pub reads_from : List ℕ → ℕ → Bool
reads_from s i = are_read (header_lines 64 s i)

-- the bytes of the Via lines among them
unfoldable pub vias_from : List ℕ → ℕ → List ℕ
vias_from s i = vias s (lines_in (header_lines 64 s i))

-- the first header line stands ten bytes behind the Request-URI
first_next : (s : List ℕ) (f : FirstLine) → first_line s ≡ Some f → f.next ≡ f.uri + 10
unfolding first_line
first_next s f h = grind arith

first_fits : (s : List ℕ) (f : FirstLine) → first_line s ≡ Some f → f.next ≤ length s
first_fits s f h = (first_line_within s h).fits

-- there all header lines stand
pub vias_first : (s : List ℕ) → (head_of s).built ≡ true
    → (vias s (lines_of s) ≡ vias_from s ((head_of s).uri + 10)) × (reads_from s ((head_of s).uri + 10) ≡ true) × ((head_of s).uri + 10 ≤ length s)
unfolding head_of with_first_line with_headers lines_of lines_after lines_in vias_from reads_from are_read
vias_first s b = grind (arith, first_next, first_fits)

-- no token begins with CR
not_token : (s : List ℕ) (i : ℕ) → byte_at s i ≡ 13 → past is_token s i ≡ i
unfolding is_token is_letter is_digit any
not_token s i c = let k : i < length s = byte_within s i c (omega arith) in past_off is_token s i k (rw (← byte_there s i k, c))

-- so no header line begins with CR LF
line_there : (s : List ℕ) (i : ℕ) {l : Line} → header_line s i ≡ Some l → crlf_at s i ≡ false
unfolding crlf_at header_line
line_there s i h = grind (arith, not_token)

-- lines that can be read can be read with a line in front
read_behind : (l : Line) (hs : Headers) → are_read (behind l hs) ≡ are_read hs
unfolding are_read behind
read_behind l hs = grind arith

-- lines that are read as at most so many are read as at most more
read_more : (k : ℕ) (s : List ℕ) (i : ℕ) → are_read (header_lines k s i) ≡ true → header_lines (suc k) s i ≡ header_lines k s i
unfolding header_lines from_line are_read
read_more zero s i e = grind arith
read_more (suc k) s i e = grind (arith, read_more k s, read_behind)

-- so the lines from a header line on are that line and those behind it
read_on : (k : ℕ) (s : List ℕ) (i : ℕ) {l : Line} → header_line s i ≡ Some l → are_read (header_lines (suc k) s i) ≡ true
    → header_lines (suc k) s i ≡ behind l (header_lines (suc k) s (l.end + 2))
unfolding header_lines from_line
read_on k s i a e = grind (arith, line_there s i a, read_more, read_behind)

-- the Via lines among some lines are that of the first, if it is one, and those behind it
vias_front : (s : List ℕ) (l : Line) (hs : Headers) → are_read hs ≡ true → vias s (lines_in (behind l hs)) ≡ vias s (l ∷ []) ++ vias s (lines_in hs)
unfolding lines_named those copied lines_in behind are_read
vias_front s l hs e = grind (arith, append-nil)

-- where no header line stands there is none
none_on : (k : ℕ) (s : List ℕ) (i : ℕ) → header_line s i ≡ None → vias s (lines_in (header_lines (suc k) s i)) ≡ []
unfolding header_lines from_line lines_in lines_named those copied
none_on k s i a = grind arith

-- so from there on nothing is left
pub vias_end : (s : List ℕ) (i : ℕ) → header_line s i ≡ None → vias_from s i ≡ []
unfolding vias_from
vias_end s i a = none_on 63 s i a

-- behind a header line
pub record Next (s : List ℕ) (i : ℕ) (l : Line) : Type 0 where
  pub line : copied s (lines_named Via s (l ∷ [])) ++ vias_from s (l.end + 2) ≡ vias_from s i
  pub reads : reads_from s (l.end + 2) ≡ true
  pub later : i < l.end
  pub within : l.end + 2 ≤ length s

-- where one stands it is as said there. The first part says nothing: it shows `grind` the call to match
pub vias_next : (s : List ℕ) (i : ℕ) → reads_from s i ≡ true → (header_line s i ≡ header_line s i) × MatchOption (header_line s i) ⊤ (Next s i)
unfolding reads_from vias_from
vias_next s i e = (refl, go (header_line s i) refl)
  where
    go : (h : Option Line) → header_line s i ≡ h → MatchOption h ⊤ (Next s i)
    go (Some l) a =
        let q = read_on 63 s i a e in
        let w = header_line_within s i a in
        let r : are_read (header_lines 64 s (l.end + 2)) ≡ true = sym (read_behind l _) ∙ (rw q at e) in
        record { line = rw q (sym (vias_front s l _ r)); reads = r; later = omega arith; within = omega arith }
    go None a = tt

-- by which `grind` goes from line to line
pub ruleset line_by_line = (in_a_row, put_none, vias_first, vias_end, vias_next)
