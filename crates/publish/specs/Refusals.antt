-- The refusals: one list of tests in the paper's order, and the first that applies.
-- Rules 2.1, 2.5, 2.7, 2.8, 7.1 to 7.20, 7.22, 7.23, 7.25 to 7.27 of docs/RULES.md.
use Rattle.std.specs.Prelude.{ℕ, ◌-◌, ◌*◌, Bool, ◌&&◌, ◌||◌, not, List, [], ◌∷◌, ◌++◌, eqb, ltb, length}
use Rattle.laws.specs.Choose.{pick}
use Rattle.laws.specs.Bytes.{bytes}
use Rattle.laws.specs.Lists.{same}
use Rattle.laws.specs.First.{Row, row, first_of}
use Rattle.text.specs.Number.{value_or}
use Rattle.request.specs.Names.{Event, Expires}
use Rattle.request.specs.Head.{method_of, absent, is_readable}
use Rattle.request.specs.declared.Head.{Head}
use Rattle.request.specs.Fields.{expires, is_bad_request, body_length, event_text, has_type, has_match, match_text, is_bad_match}
use Rattle.record.specs.Packages.{package_at, package_named, is_listed}
use Rattle.record.specs.Places.{live, least_end, smaller, matching}
use Rattle.record.specs.Sound.{latest_clock}
use Rattle.success.specs.After.{given_tag}
use Rattle.record.specs.declared.Record.{Record}
use Rattle.response.specs.declared.Field.TheVariants.{Nothing, Allow, AllowEvents, MinExpires, Accept, RetryAfter}
use Rattle.response.specs.declared.Outcome.{Outcome}
use Rattle.response.specs.declared.Outcome.TheVariants.{Silent, Refused, Granted}

-- everything that a request is tried against: the sizes lent, whether every record is sound, whether the address is in the
-- table, its record (all zero where it is not), the clock, the request's bytes and what its head says
pub record Case : Type 0 where
  pub buffer : ℕ
  pub records : ℕ
  pub store : ℕ
  pub sound : Bool
  pub known : Bool
  pub own : Record
  pub clock : ℕ
  pub text : List ℕ
  pub head : Head

-- records 0 or above 16, or store of another size
unfoldable pub is_bad_size : ℕ → ℕ → Bool
is_bad_size records store = eqb records 0 || (ltb 16 records || not (eqb store (4096 * records)))

-- the number of the request's package
unfoldable pub event_of : List ℕ → Head → ℕ
event_of s h = package_named (event_text s h)

-- requested time is Expires, or the default without it
unfoldable pub requested : List ℕ → Head → ℕ
requested s h = pick (absent Expires h) (package_at (event_of s h)).default (value_or 0 (expires s h))

-- granted is the smaller of that and the most
unfoldable pub granted : List ℕ → Head → ℕ
granted s h = smaller (requested s h) (package_at (event_of s h)).most

-- the slot of the live publication of that package that the request presents; 8 where none has that tag
unfoldable pub presented : Record → ℕ → List ℕ → Head → ℕ
presented r clock s h = matching clock (event_of s h) (match_text s h) r

-- Event absent or package not listed
unfoldable pub is_bad_event : List ℕ → Head → Bool
is_bad_event s h = absent Event h || not (is_listed (event_of s h))

-- SIP-If-Match given, no live publication of that package has it
unfoldable pub is_unmatched : Record → ℕ → List ℕ → Head → Bool
is_unmatched r clock s h = has_match h && not (ltb (presented r clock s h) 8)

-- requested time above 0 and below the least
unfoldable pub is_too_brief : List ℕ → Head → Bool
is_too_brief s h = ltb 0 (requested s h) && ltb (requested s h) (package_at (event_of s h)).least

-- body not empty, content type absent or another
unfoldable pub is_other_type : List ℕ → Head → Bool
is_other_type s h = ltb 0 (body_length s h) && not (has_type (package_at (event_of s h)).type s h)

-- no body and no SIP-If-Match
unfoldable pub is_nothing : List ℕ → Head → Bool
is_nothing s h = eqb (body_length s h) 0 && not (has_match h)

-- no SIP-If-Match, granted time above 0, eight live there
unfoldable pub is_full : Record → ℕ → List ℕ → Head → Bool
is_full r clock s h = not (has_match h) && (ltb 0 (granted s h) && eqb (length (live clock r)) 8)

-- the refusals, in the order tried: before anything is read, the sizes of what is lent and the clock
unfoldable pub size_rows : ℕ → ℕ → ℕ → ℕ → ℕ → List (Row Outcome)
size_rows buffer records store request clock =
    row (ltb buffer 4608) (Silent 1) ∷
    row (is_bad_size records store) (Silent 2) ∷
    row (ltb 4096 request) (Silent 3) ∷
    row (ltb latest_clock clock) (Silent 4) ∷
    []

-- then, behind the soundness of every record, what the request says by itself
unfoldable pub reading_rows : List ℕ → Head → List (Row Outcome)
reading_rows s h =
    row (not (is_readable s h) || same (method_of s h) (bytes "ACK")) (Silent 6) ∷
    row (not (same (method_of s h) (bytes "PUBLISH"))) (Refused 405 Allow) ∷
    row (is_bad_request s h) (Refused 400 Nothing) ∷
    []

-- then the address, its record, and the tag presented
unfoldable pub address_rows : Bool → Record → ℕ → List ℕ → Head → List (Row Outcome)
address_rows known r clock s h =
    row (not known) (Refused 404 Nothing) ∷
    row (is_bad_event s h) (Refused 489 AllowEvents) ∷
    row (ltb clock r.clock) (Refused 500 Nothing) ∷
    row (is_bad_match s h) (Refused 400 Nothing) ∷
    row (is_unmatched r clock s h) (Refused 412 Nothing) ∷
    []

-- then the time requested and the body
unfoldable pub content_rows : List ℕ → Head → List (Row Outcome)
content_rows s h =
    row (is_too_brief s h) (Refused 423 (MinExpires (package_at (event_of s h)).least)) ∷
    row (ltb 512 (body_length s h)) (Refused 413 Nothing) ∷
    row (is_other_type s h) (Refused 415 (Accept (event_of s h))) ∷
    row (is_nothing s h) (Refused 400 Nothing) ∷
    []

-- then what the address has left
unfoldable pub room_rows : Record → ℕ → List ℕ → Head → List (Row Outcome)
room_rows r clock s h =
    row (eqb r.spent 4294967295) (Refused 500 Nothing) ∷
    row (is_full r clock s h) (Refused 503 (RetryAfter (least_end (live clock r) - clock))) ∷
    []

-- the refusals that a request for one address is tried against, once the sizes, the clock and the table are good
unfoldable pub request_rows : Bool → Record → ℕ → List ℕ → Head → List (Row Outcome)
request_rows known r clock s h =
    reading_rows s h ++ (address_rows known r clock s h ++ (content_rows s h ++ room_rows r clock s h))

-- the one list
unfoldable pub refusals : Case → List (Row Outcome)
refusals c =
    size_rows c.buffer c.records c.store (length c.text) c.clock
    ++ (row (not c.sound) (Silent 5) ∷ request_rows c.known c.own c.clock c.text c.head)

-- the first that applies is given, and otherwise the request succeeds
unfoldable pub outcome_of : Case → Outcome
outcome_of c = first_of (refusals c) (Granted (given_tag c.own) (granted c.text c.head))
