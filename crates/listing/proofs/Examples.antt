-- Worked examples: one refusal of each kind that the eleven lines do not show, and reading state. Each by computation.
use mathlib.Core.Path.{◌≡◌, refl}
use Prim.Native.Nat.{ℕ}
use mathlib.Core.List.{[], ◌∷◌, ◌++◌}
use lib.ListN.{replicate}
use Rattle.laws.specs.Bytes.{bytes}
use Rattle.record.specs.Places.{empty_record}
use Rattle.record.specs.Address.{padded}
use Rattle.response.specs.declared.Field.TheVariants.{Nothing, Allow, AllowEvents, Accept, RetryAfter}
use Rattle.response.specs.declared.Outcome.TheVariants.{Silent, Refused, Granted}
use Rattle.table.specs.Table.{Table}
use Rattle.table.specs.Add.{added}
use Rattle.table.specs.Handle.{done}
use Rattle.table.specs.Read.{state_of}
use Rattle.table.specs.declared.Shown.TheVariants.{Stored, Default, Front}
use Rattle.listing.specs.Witness.{witness_text}
use Rattle.listing.specs.Input.{publish, asking, telling}
use Rattle.listing.specs.Worked.{at, ann_table, back, run_of, backs}
use Rattle.listing.specs.All.{all_listing}

-- 1: an answer buffer of 4,607 bytes
small_buffer : (done (ann_table 0) (replicate 4607 0) (at 1 [])).handled.outcome ≡ Silent 1
unfolding all_listing
small_buffer = refl

-- 2: seventeen records
many_records : back (record { records = replicate 17 empty_record; store = replicate 69632 0 }) (at 1 []) ≡ Silent 2
unfolding all_listing
many_records = refl

-- 3: a request of 4,097 bytes
long_request : back (ann_table 0) (at 1 (replicate 4097 65)) ≡ Silent 3
unfolding all_listing
long_request = refl

-- 4: a clock above its limit
late_clock : back (ann_table 0) (at 1000000000001 (telling "ann" "Event: presence\r\n")) ≡ Silent 4
unfolding all_listing
late_clock = refl

-- one record, all zero but for this number, which says whether it is in use
abbrev marked : ℕ → Table
marked n =
    record {
      records = record { used = n; address = padded []; start = 0; spent = 0; clock = 0; map = 0; slots = empty_record.slots } ∷ [];
      store = replicate 4096 0;
    }

-- 5: a record in use with no address
unsound_record : back (marked 1) (at 1 (telling "ann" "Event: presence\r\n")) ≡ Silent 5
unfolding all_listing
unsound_record = refl

-- 5: a record that says neither that it is in use nor that it is not
unmarked_record : back (marked 2) (at 1 (telling "ann" "Event: presence\r\n")) ≡ Silent 5
unfolding all_listing
unmarked_record = refl

-- nothing is added to it
unmarked_added : added (record { address = bytes "ann"; start = 0; spent = 0 }) (marked 2) ≡ record { result = 5; table = marked 2 }
unfolding all_listing
unmarked_added = refl

-- 6: no Via line
no_via : back (ann_table 0) (at 1 (bytes "PUBLISH ann SIP/2.0\r\nFrom: <ann>;tag=1\r\nTo: <ann>\r\nCall-ID: 1\r\nCSeq: 1 PUBLISH\r\n\r\n")) ≡ Silent 6
unfolding all_listing
no_via = refl

-- 405: another method
other_method : back (ann_table 0) (at 1 (bytes "OPTIONS ann SIP/2.0\r\nv: SIP/2.0/UDP pua\r\nf: <ann>;tag=1\r\nt: <ann>\r\ni: 1\r\nCSeq: 1 OPTIONS\r\n\r\n")) ≡ Refused 405 Allow
unfolding all_listing
other_method = refl

-- the first 400: Content-Length says more than is there
short_body : back (ann_table 0) (at 1 (publish "ann" "Event: presence\r\nContent-Type: application/pidf+xml\r\n" "Content-Length: 2\r\n\r\nx")) ≡ Refused 400 Nothing
unfolding all_listing
short_body = refl

-- 404: an address that was not added
unknown_address : back (ann_table 0) (at 1 (telling "bo" "Event: presence\r\n")) ≡ Refused 404 Nothing
unfolding all_listing
unknown_address = refl

-- 489: a package in another case is not listed
other_event : back (ann_table 0) (at 1 (telling "ann" "Event: Presence\r\n")) ≡ Refused 489 AllowEvents
unfolding all_listing
other_event = refl

-- the second 400: SIP-If-Match is not one token
two_tokens : back (ann_table 0) (at 1 (asking "ann" "Event: presence\r\nSIP-If-Match: 9e3779b9 3c6ef372\r\n")) ≡ Refused 400 Nothing
unfolding all_listing
two_tokens = refl

-- 413: a body of 513 bytes
large_body : back (ann_table 0) (at 1 (publish "ann" "Event: presence\r\nContent-Type: application/pidf+xml\r\n" "\r\n" ++ replicate 513 120)) ≡ Refused 413 Nothing
unfolding all_listing
large_body = refl

-- 415: a body of another type
other_type : back (ann_table 0) (at 1 (telling "ann" "o: dialog;x=1\r\n")) ≡ Refused 415 (Accept 2)
unfolding all_listing
other_type = refl

-- the third 400: no body and no SIP-If-Match
nothing_said : back (ann_table 0) (at 1 (asking "ann" "Event: presence\r\n")) ≡ Refused 400 Nothing
unfolding all_listing
nothing_said = refl

-- the second 500: every tag is spent
all_spent : back (ann_table 4294967295) (at 1 (telling "ann" "Event: presence\r\n")) ≡ Refused 500 Nothing
unfolding all_listing
all_spent = refl

-- 503: eight live at one address; the first of them runs out in 59 seconds
nine_told :
    backs "ann"
    (at 1 (telling "ann" "Event: presence\r\nExpires: 60\r\n") ∷ at 2 (telling "ann" "Event: presence\r\n") ∷ at 2 (telling "ann" "Event: presence\r\n")
    ∷ at 2 (telling "ann" "Event: presence\r\n") ∷ at 2 (telling "ann" "Event: presence\r\n") ∷ at 2 (telling "ann" "Event: presence\r\n")
    ∷ at 2 (telling "ann" "Event: presence\r\n") ∷ at 2 (telling "ann" "Event: presence\r\n") ∷ at 2 (telling "ann" "Event: presence\r\n")
    ∷ at 61 (telling "ann" "Event: presence\r\n") ∷ [])
    ≡ Granted 2654435769 60 ∷ Granted 1013904242 3600 ∷ Granted 3668340011 3600 ∷ Granted 2027808484 3600 ∷ Granted 387276957 3600
    ∷ Granted 3041712726 3600 ∷ Granted 1401181199 3600 ∷ Granted 4055616968 3600 ∷ Refused 503 (RetryAfter 59) ∷ Granted 2415085441 3600 ∷ []
unfolding all_listing
nine_told = refl

-- ann has told one byte of presence at clock 100
told : Table
told = (run_of "ann" (at 100 (telling "ann" "Event: presence\r\n") ∷ [])).table

-- reading state: the live body, as a part of the store
read_live : state_of (record { address = bytes "ann"; name = bytes "presence"; clock = 3699 }) told ≡ record { result = 0; shown = Stored 0 1 }
unfolding all_listing told
read_live = refl

-- reading state: the end has come, so the whole default body
read_ended : state_of (record { address = bytes "ann"; name = bytes "presence"; clock = 3700 }) told ≡ record { result = 0; shown = Default }
unfolding all_listing told
read_ended = refl

-- reading state: a package that is not known
read_unknown : state_of (record { address = bytes "ann"; name = bytes "weather"; clock = 3699 }) told ≡ record { result = 10; shown = Front }
unfolding all_listing told
read_unknown = refl

-- the witness's own frame for the same two readings, with a default body of three bytes
witness_live : witness_text told (bytes "020000000000000E7303616e6e0870726573656e63656f6666") ≡ bytes "read 0\n  shown store 0 1"
unfolding all_listing told
witness_live = refl

witness_ended : witness_text told (bytes "020000000000000E7403616e6e0870726573656e63656f6666") ≡ bytes "read 0\n  shown default 3"
unfolding all_listing told
witness_ended = refl

-- one whose package runs past its end
witness_bad : witness_text told (bytes "020000000000000E7303616e6e0970726573656e6365") ≡ bytes "bad"
unfolding all_listing told
witness_bad = refl
