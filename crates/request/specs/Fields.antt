-- What the fields of a readable request say, as the rows of the refusals ask.
-- Rules 6.19 to 6.26, 7.8, 7.12 of docs/RULES.md.
use Rattle.std.specs.Prelude.{ℕ, ◌+◌, ◌-◌, Bool, ◌&&◌, ◌||◌, not, List, ltb, length, take, drop, Option}
use Rattle.laws.specs.Choose.{pick}
use Rattle.laws.specs.Lists.{part, same}
use Rattle.text.specs.Class.{is_digit, is_blank, is_plain}
use Rattle.text.specs.Runs.{past, front, is_one_token}
use Rattle.text.specs.Number.{number_of, is_fit, value_or}
use Rattle.text.specs.Names.{same_text}
use Rattle.request.specs.Names.{CSeq, Content-Length, Content-Type, Event, Expires, SIP-If-Match}
use Rattle.request.specs.Head.{method_of, absent, repeated, value_named}
use Rattle.request.specs.declared.Head.{Head}

-- a CSeq value is digits (at most 2147483647), blanks, the method
unfoldable pub is_cSeq : List ℕ → List ℕ → Bool
is_cSeq method v =
    let d = past is_digit v 0 in
    let b = past is_blank v d in
    is_fit (number_of 2147483647 (take d v)) && (ltb d b && same (drop b v) method)

unfoldable pub cseq_fits : List ℕ → Head → Bool
cseq_fits s h = is_cSeq (method_of s h) (value_named CSeq s h)

-- how many bytes are there behind the empty line
unfoldable pub there : List ℕ → Head → ℕ
there s h = length s - h.rest

-- what Content-Length says, at most what is there
unfoldable pub content_length : List ℕ → Head → Option ℕ
content_length s h = number_of (there s h) (value_named Content-Length s h)

-- Content-Length is absent, or stands once with digits of at most what is there
unfoldable pub content_length_fits : List ℕ → Head → Bool
content_length_fits s h =
    not (repeated Content-Length h) && (absent Content-Length h || is_fit (content_length s h))

-- what Expires says
unfoldable pub expires : List ℕ → Head → Option ℕ
expires s h = number_of 4294967295 (value_named Expires s h)

-- Expires is absent, or stands once with digits of at most 4294967295
unfoldable pub expires_fits : List ℕ → Head → Bool
expires_fits s h = not (repeated Expires h) && (absent Expires h || is_fit (expires s h))

-- the first 400 of the list: CSeq, Content-Length or Expires does not fit, or Event or Content-Type is repeated
unfoldable pub is_bad_request : List ℕ → Head → Bool
is_bad_request s h =
    not (cseq_fits s h)
    || (not (content_length_fits s h) || (not (expires_fits s h) || (repeated Event h || repeated Content-Type h)))

-- how long the body is: what Content-Length says; without that field it runs to the end
unfoldable pub body_length : List ℕ → Head → ℕ
body_length s h = pick (absent Content-Length h) (there s h) (value_or 0 (content_length s h))

-- the body, as that part of the request
unfoldable pub body : List ℕ → Head → List ℕ
body s h = part s h.rest (h.rest + body_length s h)

-- the package's bytes: the Event value up to a ; or blank
unfoldable pub event_text : List ℕ → Head → List ℕ
event_text s h = front is_plain (value_named Event s h)

-- the content type is that one: in either case, up to ; or blank
unfoldable pub has_type : List ℕ → List ℕ → Head → Bool
has_type type s h = not (absent Content-Type h) && same_text (front is_plain (value_named Content-Type s h)) type

-- SIP-If-Match is given
unfoldable pub has_match : Head → Bool
has_match h = not (absent SIP-If-Match h)

-- the tag presented
unfoldable pub match_text : List ℕ → Head → List ℕ
match_text s h = value_named SIP-If-Match s h

-- SIP-If-Match is repeated or not one token
unfoldable pub is_bad_match : List ℕ → Head → Bool
is_bad_match s h = has_match h && (repeated SIP-If-Match h || not (is_one_token (match_text s h)))
