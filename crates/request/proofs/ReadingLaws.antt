-- The laws of the pass over the header lines: noting them one after the other tells which names stand how often, and how each turn goes on.
use mathlib.Core.Path.{◌≡◌, refl, sym, ◌∙◌, ap}
use mathlib.Core.Bool.{Bool, true, false}
use mathlib.Core.List.{List, [], ◌∷◌, ◌++◌, append_assoc, append-nil}
use Prim.Native.Nat.{ℕ, zero, suc, ◌+◌}
use lib.Dec.{eqb, eqb-zero-suc, eqb-suc-zero, eqb-suc-suc}
use lib.ListN.{get_or, set, replicate}
use Rattle.laws.specs.Choose.{pick}
use Rattle.laws.specs.Lists.{those}
use Rattle.request.specs.declared.Line.{Line}
use Rattle.request.specs.declared.Seen.{Seen}
use Rattle.request.specs.declared.Head.{Head}
use Rattle.std.proofs.Common.{Some, None}
use Rattle.request.specs.FirstLine.{crlf_at}
use Rattle.request.specs.HeaderLines.{header_line, name_of, Headers, headers, unreadable, behind, from_line, header_lines}
use Rattle.request.specs.Names.{name_number}
use Rattle.request.specs.Head.{zero_seen, lines_named, seen_in, seen_of, not_built, with_headers}
use Rattle.request.proofs.LineLaws.{crlf_within, line_begins, line_fits}
use Rattle.request.proofs.NumberedLaws.{number_within}
use Rattle.request.specs.Noted.{noted_once, noted, noted_all}

-- one line more behind the others
module _ (f : Line → Bool) (m : Line) where
  -- it is one line more of its name, and none of another
  those_more : (ls : List Line) → those f (ls ++ m ∷ []) ≡ those f ls ++ pick (f m) (m ∷ []) []
  unfolding those
  those_more [] = refl
  those_more (l ∷ ls) = go (f l) (those_more ls)
    where
      go : (b : Bool) → those f (ls ++ m ∷ []) ≡ those f ls ++ pick (f m) (m ∷ []) []
          → pick b (l ∷ those f (ls ++ m ∷ [])) (those f (ls ++ m ∷ [])) ≡ pick b (l ∷ those f ls) (those f ls) ++ pick (f m) (m ∷ []) []
      go true h = ap (λ (ls : List Line). l ∷ ls) h
      go false h = h

  -- lines of one name, and one more
  seen_once : (ls : List Line) → seen_in (ls ++ m ∷ []) ≡ noted_once (seen_in ls) m
  unfolding seen_in noted_once
  seen_once [] = refl
  seen_once (l ∷ []) = refl
  seen_once (l ∷ k ∷ ls) = refl

  -- so what is seen of a name is noted once more where the line has that name
  seen_more : (ls : List Line) → seen_in (those f (ls ++ m ∷ [])) ≡ pick (f m) (noted_once (seen_in (those f ls)) m) (seen_in (those f ls))
  seen_more ls = ap seen_in (those_more ls) ∙ go (f m)
    where
      go : (b : Bool) → seen_in (those f ls ++ pick b (m ∷ []) []) ≡ pick b (noted_once (seen_in (those f ls)) m) (seen_in (those f ls))
      go true = seen_once (those f ls)
      go false = ap seen_in (append-nil (those f ls))

-- what a function gives for the numbers from 0 on, so many
abbrev firsts : (ℕ → Seen) → ℕ → List Seen
firsts f zero = []
firsts f (suc n) = f 0 ∷ firsts (λ k. f (suc k)) n

-- one of them replaced is each of them replaced where its number is that one
set_first : (f : ℕ → Seen) (g : Seen → Seen) (n i : ℕ)
    → set (firsts f n) i (g (get_or (firsts f n) i zero_seen)) ≡ firsts (λ k. pick (eqb i k) (g (f k)) (f k)) n
set_first f g zero i = refl
set_first f g (suc n) zero = simp eqb-zero-suc
set_first f g (suc n) (suc i) = simp (eqb-suc-suc, eqb-suc-zero) (ap (λ (l : List Seen). f 0 ∷ l) (set_first (λ k. f (suc k)) g n i))

-- a line noted behind some lines
noted_more : (s : List ℕ) (ls : List Line) (m : Line) → noted s (seen_of s ls) m ≡ seen_of s (ls ++ m ∷ [])
unfolding noted seen_of lines_named
noted_more s ls m =
    set_first (λ n. seen_in (lines_named n s ls)) (λ f. noted_once f m) 11 (name_number (name_of s m))
    ∙ sym (simp seen_more)

-- lines noted behind others
noted_behind : (s : List ℕ) (ls ms : List Line) → noted_all s (seen_of s ls) ms ≡ seen_of s (ls ++ ms)
unfolding noted_all
noted_behind s ls [] = ap (seen_of s) (sym (append-nil ls))
noted_behind s ls (m ∷ ms) = rw (noted_more s ls m) (noted_behind s (ls ++ m ∷ []) ms ∙ ap (seen_of s) (append_assoc ls (m ∷ []) ms))

-- all lines noted, one after the other, are which names stand how often
pub noted_all_lem : (s : List ℕ) (ls : List Line) → noted_all s (replicate 11 zero_seen) ls ≡ seen_of s ls
unfolding seen_of lines_named those seen_in
noted_all_lem s ls = noted_behind s [] ls

-- the head where some names are seen and the other lines are read
unfoldable pub goes_on : List ℕ → ℕ → ℕ → List Seen → Headers → Head
goes_on s m u seen (headers ls rest) = record { built = true; method = m; uri = u; rest = rest; seen = noted_all s seen ls }
goes_on s m u seen unreadable = not_built

module _ (s : List ℕ) (m u : ℕ) where
  -- before the first line no name is seen
  pub goes_start : (hs : Headers) → with_headers s m u hs ≡ goes_on s m u (replicate 11 zero_seen) hs
  unfolding with_headers goes_on
  goes_start (headers ls rest) =
      ap (λ (seen : List Seen). record { built = true; method = m; uri = u; rest = rest; seen = seen }) (sym (noted_all_lem s ls))
  goes_start unreadable = refl

  -- a line that is read is noted
  goes_behind : (seen : List Seen) (l : Line) (hs : Headers) → goes_on s m u seen (behind l hs) ≡ goes_on s m u (noted s seen l) hs
  unfolding goes_on behind noted_all
  goes_behind seen l (headers ls rest) = refl
  goes_behind seen l unreadable = refl

  module _ (seen : List Seen) (k i : ℕ) where
    -- an empty line ends the lines
    pub goes_end : crlf_at s i ≡ true
        → goes_on s m u seen (header_lines k s i) ≡ record { built = true; method = m; uri = u; rest = i + 2; seen = seen }
    unfolding goes_on header_lines noted_all
    goes_end e = go k
      where
        go : (k : ℕ) → goes_on s m u seen (header_lines k s i) ≡ record { built = true; method = m; uri = u; rest = i + 2; seen = seen }
        go zero = rw e
        go (suc k) = rw e

    -- where no more line may follow and none is empty, they cannot be read
    pub goes_none : k ≡ 0 → crlf_at s i ≡ false → goes_on s m u seen (header_lines k s i) ≡ not_built
    unfolding goes_on header_lines
    goes_none z e = rw (z, e)

    -- nor where something else stands there
    pub goes_bad : header_line s i ≡ None → crlf_at s i ≡ false → goes_on s m u seen (header_lines k s i) ≡ not_built
    unfolding goes_on header_lines from_line
    goes_bad h e = go k
      where
        go : (k : ℕ) → goes_on s m u seen (header_lines k s i) ≡ not_built
        go zero = rw e
        go (suc k) = rw (e, h)

  -- a header line is noted in the entry of its name, and they go on behind it
  pub goes_line : (seen : List Seen) (k j i : ℕ) {l : Line} {n : ℕ} {f : Seen} → k ≡ suc j → header_line s i ≡ Some l
      → n ≡ name_number (name_of s l) → f ≡ noted_once (get_or seen n zero_seen) l
      → goes_on s m u seen (header_lines k s i) ≡ goes_on s m u (set seen n f) (header_lines j s (l.end + 2))
  unfolding header_lines from_line noted
  goes_line seen k j i {l} {n} {f} q h a b = go (crlf_at s i) refl
    where
      go : (t : Bool) → crlf_at s i ≡ t
          → goes_on s m u seen (header_lines k s i) ≡ goes_on s m u (set seen n f) (header_lines j s (l.end + 2))
      go true e = let z : None ≡ Some l = sym (line_begins s i e) ∙ h in cc
      go false e = rw (b, a, q, e, h) (goes_behind seen l (header_lines j s (l.end + 2)))

-- the laws that a pass over the lines goes by
pub ruleset going = (goes_start, goes_end, goes_none, goes_bad, line_fits, crlf_within, number_within)
