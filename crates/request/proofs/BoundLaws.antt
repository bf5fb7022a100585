-- Where the header lines of a request lie: each within the request, one behind the other; so those that are copied are together no longer than it.
use mathlib.Core.Path.{◌≡◌, refl}
use mathlib.Core.Bool.{Bool, true, false, ◌&&◌}
use mathlib.Core.List.{List, [], ◌∷◌}
use Prim.Native.Nat.{ℕ, zero, suc, ◌+◌, ◌-◌, ◌<◌, ◌≤◌}
use native.Mathlib.Omega.{arith}
use lib.Dec.{eqb, leb}
use lib.ListN.{length, length-append}
use borrow.Author.Tests.{leb-true, le-leb, ne_eqb}
use Rattle.laws.specs.Choose.{pick}
use Rattle.laws.specs.Lists.{every, those}
use Rattle.laws.proofs.Tests.{and_left, and_right, and_both, every_cons, every_those}
use Rattle.laws.proofs.Parts.{part_length}
use Rattle.request.specs.declared.Line.{Line}
use Rattle.request.specs.declared.FirstLine.{FirstLine}
use Rattle.std.proofs.Common.{Option, Some, None}
use Rattle.request.specs.FirstLine.{crlf_at, first_line}
use Rattle.request.specs.HeaderLines.{header_line, name_of, whole_line, copied, Headers, headers, unreadable, behind, from_line, header_lines}
use Rattle.request.specs.Names.{Via, From, To, Call-ID, CSeq, name_number}
use Rattle.request.specs.Head.{lines_in, lines_after, lines_of, lines_named}
use Rattle.request.proofs.LineLaws.{Within, header_line_within}

-- the line lies within the request, and so does its CR LF
unfoldable pub lies_in : List ℕ → Line → Bool
lies_in s l = leb l.start l.end && leb (l.end + 2) (length s)

module _ (s : List ℕ) (P : ℕ → List Line → Type 0) (none : (at : ℕ) → P at [])
    (more : (at : ℕ) (l : Line) (ls : List Line) → Within s at l → P (l.end + 2) ls → P at (l ∷ ls)) where
  -- what holds of no line, and of one more in front, holds of the lines that are read
  lines_all : (k at : ℕ) → P at (lines_in (header_lines k s at))
  unfolding header_lines lines_in from_line behind
  lines_all zero at = go (crlf_at s at)
    where
      go : (b : Bool) → P at (lines_in (pick b (headers [] (at + 2)) unreadable))
      go true = none at
      go false = none at
  lines_all (suc k) at = go (crlf_at s at) (header_line s at) refl (lines_all k)
    where
      front : (l : Line) → Within s at l → (hs : Headers) → P (l.end + 2) (lines_in hs) → P at (lines_in (behind l hs))
      front l p (headers ls rest) h = more at l ls p h
      front l p unreadable h = none at

      go : (b : Bool) (h : Option Line) → header_line s at ≡ h → ((next : ℕ) → P next (lines_in (header_lines k s next)))
          → P at (lines_in (pick b (headers [] (at + 2)) (from_line (header_lines k s) h)))
      go true h e rest = none at
      go false (Some l) e rest = front l (header_line_within s at e) (header_lines k s (l.end + 2)) (rest (l.end + 2))
      go false None e rest = none at

  -- and of the lines of the request
  lines_of_lem : (Q : List Line → Type 0) → ((at : ℕ) (ls : List Line) → P at ls → Q ls) → Q (lines_of s)
  unfolding lines_of lines_after
  lines_of_lem Q h = go (first_line s)
    where
      go : (f : Option FirstLine) → Q (lines_after s f)
      go (Some f) = h f.next (lines_in (header_lines 64 s f.next)) (lines_all 64 f.next)
      go None = h 0 [] (none 0)

-- nothing is counted for a smaller number
far : (k n w : ℕ) → n < k → pick (eqb k n) w 0 ≡ 0
far k n w h = rw (ne_eqb k n (λ e. omega arith))

-- so something is counted for at most one of five numbers
one_of : (k w : ℕ)
    → pick (eqb k 0) w 0 + (pick (eqb k 1) w 0 + (pick (eqb k 2) w 0 + (pick (eqb k 3) w 0 + pick (eqb k 4) w 0))) ≤ w
one_of zero w = omega arith
one_of (suc zero) w = omega arith
one_of (suc (suc zero)) w = omega arith
one_of (suc (suc (suc zero))) w = omega arith
one_of (suc (suc (suc (suc zero)))) w = omega arith
one_of (suc (suc (suc (suc (suc j))))) w =
    let k : ℕ = suc (suc (suc (suc (suc j)))) in
    omega (arith, far k 0 w (omega arith), far k 1 w (omega arith), far k 2 w (omega arith), far k 3 w (omega arith), far k 4 w (omega arith))

module _ (s : List ℕ) where
  -- a line that lies within the request does not end before its start
  pub lies_ordered : (l : Line) → lies_in s l ≡ true → l.start ≤ l.end
  unfolding lies_in
  lies_ordered l h = leb-true l.start l.end (and_left (leb l.start l.end) (leb (l.end + 2) (length s)) h)

  -- and its CR LF stands there
  pub lies_within : (l : Line) → lies_in s l ≡ true → l.end + 2 ≤ length s
  unfolding lies_in
  lies_within l h = leb-true (l.end + 2) (length s) (and_right (leb l.start l.end) (leb (l.end + 2) (length s)) h)

  -- so it is as long as its two ends say
  pub whole_length : (l : Line) → lies_in s l ≡ true → length (whole_line s l) ≡ l.end + 2 - l.start
  unfolding whole_line
  whole_length l h =
      part_length s l.start (l.end + 2) (omega (arith, lies_ordered l h)) (omega (arith, lies_within l h))

  -- a line that is read lies so
  pub line_lies : (at : ℕ) (l : Line) → Within s at l → lies_in s l ≡ true
  unfolding lies_in
  line_lies at l p =
      and_both _ _ (le-leb l.start l.end (omega arith)) (le-leb (l.end + 2) (length s) (omega arith))

  -- each line of the request lies so
  pub lines_lie : every (lies_in s) (lines_of s) ≡ true
  unfolding every
  lines_lie =
      lines_of_lem s (λ at ls. every (lies_in s) ls ≡ true) (λ at. refl)
      (λ at l ls p h. every_cons (lies_in s) l ls (line_lies at l p) h)
      (λ ls. every (lies_in s) ls ≡ true) (λ at ls h. h)

  -- and so does each line of one name
  pub named_lie : (n : ℕ) → every (lies_in s) (lines_named n s (lines_of s)) ≡ true
  unfolding lines_named
  named_lie n = every_those (lies_in s) (lies_in s) (λ l. eqb (name_number (name_of s l)) n) (lines_of s) (λ l h e. h) lines_lie

  -- all lines together are no longer than the request
  lines_short : length (copied s (lines_of s)) ≤ length s
  unfolding copied
  lines_short =
      lines_of_lem s (λ at ls. length (copied s ls) ≤ length s - at) (λ at. omega arith)
      (λ at l ls p h. omega (arith, length-append (whole_line s l) (copied s ls), whole_length l (line_lies at l p)))
      (λ ls. length (copied s ls) ≤ length s) (λ at ls h. omega arith)

  -- how long the lines of one name are with one line more in front
  named_more : (n : ℕ) (l : Line) (ls : List Line)
      → length (copied s (lines_named n s (l ∷ ls)))
      ≡ pick (eqb (name_number (name_of s l)) n) (length (whole_line s l)) 0 + length (copied s (lines_named n s ls))
  unfolding lines_named those copied
  named_more n l ls = go (eqb (name_number (name_of s l)) n)
    where
      go : (b : Bool)
          → length (copied s (pick b (l ∷ lines_named n s ls) (lines_named n s ls)))
          ≡ pick b (length (whole_line s l)) 0 + length (copied s (lines_named n s ls))
      go true = length-append (whole_line s l) (copied s (lines_named n s ls))
      go false = omega arith

  -- the lines of five names are together no longer than all lines
  five_short : (ls : List Line)
      → length (copied s (lines_named Via s ls))
      + (length (copied s (lines_named From s ls))
      + (length (copied s (lines_named To s ls))
      + (length (copied s (lines_named Call-ID s ls)) + length (copied s (lines_named CSeq s ls)))))
      ≤ length (copied s ls)
  unfolding lines_named those copied
  five_short [] = omega arith
  five_short (l ∷ ls) =
      omega (
        arith,
        named_more Via l ls,
        named_more From l ls,
        named_more To l ls,
        named_more Call-ID l ls,
        named_more CSeq l ls,
        one_of (name_number (name_of s l)) (length (whole_line s l)),
        length-append (whole_line s l) (copied s ls),
        five_short ls,
      )

  -- so the header lines that are copied are together no longer than the request
  pub copied_short : length (copied s (lines_named Via s (lines_of s)))
      + (length (copied s (lines_named From s (lines_of s)))
      + (length (copied s (lines_named To s (lines_of s)))
      + (length (copied s (lines_named Call-ID s (lines_of s))) + length (copied s (lines_named CSeq s (lines_of s))))))
      ≤ length s
  copied_short = omega (arith, five_short (lines_of s), lines_short)
