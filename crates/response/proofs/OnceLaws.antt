-- The laws of the lines that a head has noted: of a name that stands once the noted line is the only one.
use mathlib.Core.Path.{◌≡◌, sym, ◌∙◌, ap}
use mathlib.Core.Bool.{true}
use mathlib.Core.List.{List, [], ◌∷◌, append-nil}
use Prim.Native.Nat.{ℕ, ◌+◌, ◌<◌, ◌≤◌}
use native.Mathlib.Omega.{arith}
use lib.ListN.{length, get_or-replicate}
use borrow.Author.Tests.{eqb-true}
use Rattle.laws.specs.Lists.{those}
use Rattle.laws.proofs.Tests.{every_head}
use Rattle.laws.proofs.Table.{at}
use Rattle.request.specs.declared.FirstLine.{FirstLine}
use Rattle.std.proofs.Common.{Option, Some, None}
use Rattle.request.specs.declared.Line.{Line}
use Rattle.request.specs.declared.Seen.{Seen}
use Rattle.request.specs.FirstLine.{first_line}
use Rattle.request.specs.HeaderLines.{Headers, headers, unreadable, header_lines}
use Rattle.request.specs.Head.{zero_seen, lines_in, lines_after, lines_of, lines_named, seen_in, seen_of, with_headers, with_first_line, head_of, seen_at, once}
use Rattle.request.proofs.BoundLaws.{lies_in, lies_within, named_lie}

-- what is noted of a name is what its lines say
seen_named : (s : List ℕ) (n : ℕ) → n < 11 → seen_at n (head_of s) ≡ seen_in (lines_named n s (lines_of s))
unfolding head_of with_first_line with_headers lines_of lines_after lines_in seen_at seen_of lines_named those seen_in
seen_named s n h = go (first_line s)
  where
    inner : (m u : ℕ) (hs : Headers) → seen_at n (with_headers s m u hs) ≡ seen_in (lines_named n s (lines_in hs))
    inner m u (headers ls rest) = at (λ n. seen_in (lines_named n s ls)) zero_seen 11 n h
    inner m u unreadable = get_or-replicate 11 n zero_seen zero_seen h

    go : (f : Option FirstLine) → seen_at n (with_first_line s f) ≡ seen_in (lines_named n s (lines_after s f))
    go (Some f) = inner f.method f.uri (header_lines 64 s f.next)
    go None = get_or-replicate 11 n zero_seen zero_seen h

-- lines that are one
one_line : (ls : List Line) → (seen_in ls).times ≡ 1 → ls ≡ (seen_in ls).line ∷ []
unfolding seen_in
one_line ls e = grind arith

module _ (s : List ℕ) (n : ℕ) where
  -- of a name that stands once the noted line is the only one
  pub only_line : n < 10 → once n (head_of s) ≡ true → lines_named n s (lines_of s) ≡ (seen_at n (head_of s)).line ∷ []
  unfolding once
  only_line k e =
      let q = seen_named s n (omega arith) in
      one_line (lines_named n s (lines_of s)) (ap (λ (f : Seen). f.times) (sym q) ∙ eqb-true _ 1 e)
      ∙ ap (λ (f : Seen). f.line ∷ []) (sym q)

  -- its CR LF stands within the request
  pub only_within : n < 10 → once n (head_of s) ≡ true → (seen_at n (head_of s)).line.end + 2 ≤ length s
  only_within k e = lies_within s _ (every_head (lies_in s) _ [] (rw (only_line k e) at (named_lie s n)))

-- by which `grind` takes the noted line for all lines of its name
pub ruleset noted_once = (only_line, only_within, append-nil)
