-- A worked run: both sides of the promises by computation, and wrong twins of C4 and C5 with the places at which they are wrong.
use Prim.Native.Nat.{ℕ}
use mathlib.Core.Path.{◌≡◌, refl}
use mathlib.Core.Bool.{true, false}
use mathlib.Core.List.{List, [], ◌∷◌, map}
use lib.ListN.{replicate, get_or}
use Rattle.laws.specs.Bytes.{bytes}
use Rattle.laws.specs.Lists.{those, same}
use Rattle.table.specs.Add.{Entry}
use Rattle.table.specs.Handle.{Input}
use Rattle.runs.specs.Run.{Run, exchanges}
use Rattle.runs.specs.Added.{added_in}
use Rattle.runs.specs.Reach.{is_for_none}
use Rattle.runs.specs.Alone.{alone, life_of, elsewhere}
use Rattle.runs.specs.Worked.{Sides, sides, shown_of, numbers_of, junk_table, entry_with, sent, calls, tells, asks}
use Rattle.runs.specs.All.{all_runs}

-- ann tells presence for 60 seconds, and tries tags
of_ann : List Input
of_ann =
    tells 100 "ann" "o:presence\r\nExpires:60\r\n"
    ∷ asks 110 "ann" "o:dialog\r\nSIP-If-Match:9e3779b9\r\n"
    ∷ asks 120 "ann" "o:presence\r\nSIP-If-Match:3c6ef372\r\n"
    ∷ asks 159 "ann" "o:presence\r\nSIP-If-Match:9e3779b9\r\nExpires:30\r\n"
    ∷ asks 160 "ann" "o:presence\r\nSIP-If-Match:9e3779b9\r\n"
    ∷ asks 159 "ann" "o:presence\r\nSIP-If-Match:Ye3779b9\r\n"
    ∷ asks 159 "ann" "o:presence\r\nSIP-If-Match:9E3779b9\r\nExpires:60\r\n"
    ∷ asks 159 "ann" "o:presence\r\nSIP-If-Match:9e3779b9\r\n"
    ∷ asks 158 "ann" "o:presence\r\nSIP-If-Match:3c6ef372\r\n"
    ∷ asks 160 "ann" "o:weather\r\nSIP-If-Match:3c6ef372\r\n"
    ∷ asks 218 "ann" "o:presence\r\nSIP-If-Match:3C6EF372\r\nExpires:0\r\n"
    ∷ asks 218 "ann" "o:presence\r\nSIP-If-Match:3c6ef372\r\n"
    ∷ asks 218 "ann" "o:presence\r\nSIP-If-Match:daa66d2b\r\n"
    ∷ []

-- bo, whose tags are ann's second and third, tells presence for an hour and refreshes it
of_bo : List Input
of_bo = tells 100 "bo" "o:presence\r\n" ∷ asks 150 "bo" "o:presence\r\nSIP-If-Match:3c6ef372\r\n" ∷ []

-- others reach no one: an address that was not added, an unreadable request, a clock above its limit, another method, a repeated Event,
-- and a request that is too long
of_others : List Input
of_others =
    asks 104 "cy" "o:presence\r\n"
    ∷ record { clock = 5; number = 1; request = bytes "PUBLISH ann SIP/2.0\r\n\r\n" }
    ∷ asks 1000000000001 "ann" "o:presence\r\n"
    ∷ record { clock = 105; number = 1; request = calls "OPTIONS" "ann" "\r\n" }
    ∷ asks 105 "ann" "o:presence\r\no:presence\r\n"
    ∷ record { clock = 105; number = 1; request = replicate 4097 65 }
    ∷ []

at : List Input → ℕ → Input
at xs i = get_or xs i (asks 0 "" "")

-- ann's inputs in their order, with the others' between them
mixed : List Input
mixed =
    at of_bo 0 ∷ at of_others 0 ∷ at of_ann 0 ∷ at of_others 1 ∷ at of_ann 1 ∷ at of_ann 2 ∷ at of_bo 1 ∷ at of_ann 3 ∷ at of_others 2 ∷ at of_ann 4
    ∷ at of_ann 5 ∷ at of_others 3 ∷ at of_ann 6 ∷ at of_ann 7 ∷ at of_ann 8 ∷ at of_others 4 ∷ at of_ann 9 ∷ at of_others 5 ∷ at of_ann 10 ∷ at of_ann 11
    ∷ at of_ann 12 ∷ []

-- ann, then two entries that are refused (an address that is there, an empty one), bo, and cy, for whom no record is left
entries : List Entry
entries = entry_with "ann" 0 0 ∷ entry_with "ann" 9 9 ∷ entry_with "" 0 0 ∷ entry_with "bo" 0 1 ∷ entry_with "cy" 0 0 ∷ []

busy : Run
unfolding all_runs mixed of_ann of_bo of_others at entries
busy = record { lent = junk_table; entries = entries; sendings = map sent mixed; sizes = refl; numbers = refl; buffers = refl }

-- ann and bo are added, and no other
who : added_in busy ≡ entry_with "ann" 0 0 ∷ entry_with "bo" 0 1 ∷ []
unfolding all_runs busy entries
who = refl

-- C1 at ann: every number of her answers, of her record and of her part, among the others' inputs
c1 : same (numbers_of (life_of (bytes "ann") busy)) (numbers_of (alone (entry_with "ann" 0 0) of_ann)) ≡ true
unfolding all_runs busy mixed of_ann of_bo of_others at entries
c1 = refl

-- C2 at the six inputs that are for no added address: 404, 6, 4, 405, 400 and 3
c2 : those (λ x. is_for_none busy x.input) (exchanges busy) ≡ map elsewhere of_others
unfolding all_runs busy mixed of_ann of_bo of_others at entries
c2 = refl

-- C4 at each of ann's inputs: tried, matched by the answer, stands by the history
ann_sides : List Sides
ann_sides =
    -- no tag is presented
    sides false true false
    -- the tag under another package
    ∷ sides true false false
    -- a tag that was given at another address only
    ∷ sides true false false
    -- one second before its end: it matches, and 423 refuses
    ∷ sides true true true
    -- at its end
    ∷ sides true false false
    -- with 32 added to its first digit, which is no letter
    ∷ sides true false false
    -- after the refused presentations it still matches, in mixed case, and is refreshed
    ∷ sides true true true
    -- the old tag after the refresh
    ∷ sides true false false
    -- the new tag at a clock below the refresh's: 500, and not tried
    ∷ sides false true true
    -- a package that is not listed: 489, and not tried
    ∷ sides false true false
    -- the new tag one second before its end: it matches, in capitals, and is removed
    ∷ sides true true true
    -- the new tag after the removal
    ∷ sides true false false
    -- the tag that the removal gave, with no time
    ∷ sides true false false
    ∷ []

-- C4 and C5 at ann. Their wrong twins: without "for that package" C4 is wrong at the tag under another package (1); with "at most" for
-- "below" at the end (4) and at the tag given with no time (12); without "no later success presented it" after the refresh (7) and after
-- the removal (11), and so with "presented it as it is written"; without "there" at ann's second tag before she had it and at her third
-- after its end (5 and 20 of the run), and C5 is wrong without "there" too
c4_c5 : shown_of (bytes "ann") (exchanges busy)
    ≡ record {
      right = ann_sides;
      tags = bytes "9e3779b9" ∷ bytes "3c6ef372" ∷ bytes "daa66d2b" ∷ [];
      any_package = 1 ∷ [];
      to_the_end_holds = 4 ∷ 12 ∷ [];
      though_presented_holds = 7 ∷ 11 ∷ [];
      presented_as_written_holds = 7 ∷ 11 ∷ [];
      any_address = 5 ∷ 20 ∷ [];
      differ_anywhere = false;
    }
unfolding all_runs busy mixed of_ann of_bo of_others at entries ann_sides
c4_c5 = refl
