-- What the worked runs are stated with: junk that is lent, short requests, and both sides of C4 as tests.
use Rattle.std.specs.Prelude.{ℕ, suc, Bool, false, ◌&&◌, not, List, [], ◌∷◌, ◌++◌, map, ltb, leb, replicate}
use Prim.Native.String.{String}
use Rattle.laws.specs.Choose.{pick}
use Rattle.laws.specs.Bytes.{bytes}
use Rattle.laws.specs.Lists.{those, same}
use Rattle.tag.specs.Written.{tag_text, is_tag_text}
use Rattle.record.specs.Places.{zero_slot}
use Rattle.record.specs.declared.Slot.{Slot}
use Rattle.record.specs.declared.Record.{Record}
use Rattle.response.specs.Outcomes.{result_of}
use Rattle.table.specs.Table.{Table}
use Rattle.table.specs.Add.{Entry}
use Rattle.table.specs.Handle.{Input}
use Rattle.table.specs.Run.{Sending, Exchange}
use Rattle.listing.specs.Input.{joined}
use Rattle.runs.specs.Reach.{is_for}
use Rattle.runs.specs.Alone.{Life}
use Rattle.runs.specs.Tags.{tag_in, package_in, came_back, succeeded, tag_given, end_of, gave, presented_tag, some_left, stands, is_tried, matched, tags_given, all_differ}

-- a record in use that is not sound, and not even whole
unfoldable pub junk_record : Record
junk_record = record { used = 1; address = 0 ∷ []; start = 5; spent = 7; clock = 9; map = 255; slots = zero_slot ∷ [] }

-- two of them, and a store for them that is full of junk
unfoldable pub junk_table : Table
junk_table = record { records = replicate 2 junk_record; store = replicate 8192 77 }

-- an address with its start and spent count
unfoldable pub entry_with : String → ℕ → ℕ → Entry
entry_with address start spent = record { address = bytes address; start = start; spent = spent }

-- an input sent with a buffer of 5,000 bytes of junk
unfoldable pub sent : Input → Sending
sent x = record { input = x; buffer = replicate 5000 99 }

-- a short request: its method, its Request-URI, these lines and this end
unfoldable pub calls : String → String → String → List ℕ
calls method who lines =
    joined
    (bytes method ∷ bytes " " ∷ bytes who ∷ bytes " SIP/2.0\r\nv:x\r\nf:x\r\nt:x\r\ni:x\r\nCSeq:1 " ∷ bytes method ∷ bytes "\r\n" ∷ bytes lines ∷ [])

-- at a clock, a PUBLISH with a one-byte body of presence's type
unfoldable pub tells : ℕ → String → String → Input
tells clock who lines =
    record { clock = clock; number = 1; request = calls "PUBLISH" who lines ++ bytes "c:application/pidf+xml\r\n\r\nx" }

-- and one with no body
unfoldable pub asks : ℕ → String → String → Input
asks clock who lines = record { clock = clock; number = 1; request = calls "PUBLISH" who lines ++ bytes "\r\n" }

-- the numbers of a slot
unfoldable pub slot_numbers : Slot → List ℕ
slot_numbers s = s.event ∷ s.tag ∷ s.end ∷ s.length ∷ s.edition ∷ []

-- the numbers of a record, its address and its slots last
unfoldable pub record_numbers : Record → List ℕ
record_numbers r =
    r.used ∷ r.start ∷ r.spent ∷ r.clock ∷ r.map ∷ (r.address ++ joined (map slot_numbers r.slots))

-- the numbers of a life, one behind the other: each result with the length and the bytes of its message, the record and the part
unfoldable pub numbers_of : Life → List ℕ
numbers_of l =
    joined (map (λ x. result_of (came_back x) ∷ x.answer.handled.length ∷ x.answer.message) l.exchanges)
    ++ (record_numbers l.own ++ l.part)

-- both sides of C4 at one exchange: whether it is tried for a match, whether one matched, whether the tag stands
pub record Sides : Type 0 where
  pub tried : Bool
  pub answer : Bool
  pub history : Bool

-- the three, written in one line
abbrev pub sides : Bool → Bool → Bool → Sides
sides tried answer history = record { tried = tried; answer = answer; history = history }

-- both sides at each exchange of a history, by some test that tells whether a tag stands
unfoldable pub sides_from : (List ℕ → ℕ → ℕ → List Exchange → Bool) → List Exchange → List Exchange → List Sides
sides_from f before [] = []
sides_from f before (x ∷ xs) =
    sides (is_tried x.input before) (matched x) (f (tag_in x.input) (package_in x.input) x.input.clock before)
    ∷ sides_from f (before ++ (x ∷ [])) xs

-- wrong: the package is not looked at
unfoldable pub for_any_package : List ℕ → ℕ → ℕ → List Exchange → Bool
for_any_package t p clock before =
    some_left (λ x. (succeeded x && is_tag_text t (tag_given x)) && ltb clock (end_of x)) (λ x. presented_tag (tag_given x)) before

-- wrong: the end itself still counts
unfoldable pub to_the_end : List ℕ → ℕ → ℕ → List Exchange → Bool
to_the_end t p clock before = some_left (λ x. gave t p x && leb clock (end_of x)) (λ x. presented_tag (tag_given x)) before

-- wrong: a tag that was presented still counts
unfoldable pub though_presented : List ℕ → ℕ → ℕ → List Exchange → Bool
though_presented t p clock before = some_left (λ x. gave t p x && ltb clock (end_of x)) (λ x y. false) before

-- wrong: a tag counts as presented only where it is presented as it is written
unfoldable pub presented_as_written : List ℕ → ℕ → ℕ → List Exchange → Bool
presented_as_written t p clock before =
    some_left
    (λ x. gave t p x && ltb clock (end_of x))
    (λ x y. presented_tag (tag_given x) y && same (tag_in y.input) (tag_text (tag_given x)))
    before

-- where a tried input was not matched though a test says that its tag stands, counted from 0
unfoldable pub wrong_from : ℕ → List Sides → List ℕ
wrong_from i [] = []
wrong_from i (x ∷ xs) = let r = wrong_from (suc i) xs in pick (x.tried && (x.history && not x.answer)) (i ∷ r) r

-- the places of a history at which such a test is wrong
unfoldable pub wrong_at : (List ℕ → ℕ → ℕ → List Exchange → Bool) → List Exchange → List ℕ
wrong_at f history = wrong_from 0 (sides_from f [] history)

-- what some exchanges show of the tags at an address: both sides of C4 at each of its inputs, the tags given, where the wrong tests are
-- wrong, where the right one is over the exchanges of every address, and whether the tags of every address differ
pub record Shown : Type 0 where
  pub right : List Sides
  pub tags : List (List ℕ)
  pub any_package : List ℕ
  pub to_the_end_holds : List ℕ
  pub though_presented_holds : List ℕ
  pub presented_as_written_holds : List ℕ
  pub any_address : List ℕ
  pub differ_anywhere : Bool

-- the same, computed
unfoldable pub shown_of : List ℕ → List Exchange → Shown
shown_of a all =
    let history = those (λ x. is_for a x.input) all in
    record {
      right = sides_from stands [] history;
      tags = tags_given history;
      any_package = wrong_at for_any_package history;
      to_the_end_holds = wrong_at to_the_end history;
      though_presented_holds = wrong_at though_presented history;
      presented_as_written_holds = wrong_at presented_as_written history;
      any_address = wrong_at stands all;
      differ_anywhere = all_differ (tags_given all);
    }
