-- The paper's refusals before 412, the first twelve, at a table of a run: for an input that is read as far as its address, which is there,
-- three of them are left to be passed.
use mathlib.Core.Path.{◌≡◌, refl, sym, ◌∙◌, ap}
use mathlib.Core.Bool.{Bool, true, false, not, ◌&&◌, ◌||◌}
use mathlib.Core.List.{List, ◌++◌}
use Prim.Native.Nat.{ℕ}
use lib.Dec.{leb, ltb}
use lib.ListN.{take, drop}
use borrow.Author.Tests.{lt-leb, le-leb, ltb-true, ltb-false, not-true}
use Rattle.laws.specs.First.{Row}
use Rattle.laws.specs.Lists.{any}
use Rattle.request.specs.Head.{head_of}
use Rattle.request.specs.Fields.{is_bad_match}
use Rattle.publish.specs.Refusals.{is_bad_size, is_bad_event, refusals, size_rows, request_rows, reading_rows, address_rows}
use Rattle.response.specs.declared.Outcome.{Outcome}
use Rattle.table.specs.Table.{Table, bad_size, is_known}
use Rattle.table.specs.Handle.{case_of}
use Rattle.table.specs.Run.{Sending}
use Rattle.runs.specs.Run.{has_room}
use Rattle.runs.specs.Reach.{rows_before, is_read}
use Rattle.laws.proofs.Bools.{none_of_three}
use Rattle.laws.proofs.Lists.{any_append}
use Rattle.runs.proofs.Fine.{Fine}
use Rattle.runs.proofs.Sent.{uri, own_in, roomy}

-- a number is not above another where that is not below it
not_above : (a b : ℕ) → leb a b ≡ not (ltb b a)
not_above a b = go (ltb b a) refl
  where
    go : (c : Bool) → ltb b a ≡ c → leb a b ≡ not c
    go true e = lt-leb a b (ltb-true b a e)
    go false e = le-leb a b (ltb-false b a e)

-- one of some rows applies
abbrev pub some_applies : List (Row Outcome) → Bool
some_applies rows = any (λ w. w.applies) rows

-- the three: 489, 500 for the clock, and the second 400
pub checks : (t : Table) (x : Sending) → Fine t → has_room x ≡ true → is_read x.input ≡ true → is_known (uri x.input) t ≡ true
    → (not (is_bad_event x.input.request (head_of x.input.request))
    && (leb (own_in (uri x.input) t).clock x.input.clock && not (is_bad_match x.input.request (head_of x.input.request))))
    ≡ not (some_applies (take 12 (refusals (case_of t x.buffer x.input))))
unfolding is_read rows_before is_bad_size any case_of refusals size_rows request_rows reading_rows address_rows bad_size
checks t x f room read known =
    rw (not_above own x.input.clock, roomy x room, f.size, f.sound, known)
    (none_of_three (is_bad_event s (head_of s)) (ltb x.input.clock own) (is_bad_match s (head_of s)) ∙ ap not (sym decide))
  where
    s : List ℕ
    s = x.input.request

    own : ℕ
    own = (own_in (uri x.input) t).clock

    left : List (Row Outcome)
    left = take 3 (drop 1 (address_rows true (own_in (uri x.input) t) x.input.clock s (head_of s)))

    decide : some_applies (rows_before x.input ++ left) ≡ some_applies left
    decide =
        any_append (λ w. w.applies) (rows_before x.input) left
        ∙ ap (λ (b : Bool). b || some_applies left) (not-true (some_applies (rows_before x.input)) read)
