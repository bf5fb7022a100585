-- The paper's numbers for what comes back: result, status, phrase and field.
-- Rules 1.6, 9.2, 9.5, 9.6 of docs/RULES.md.
use Rattle.std.specs.Prelude.{ℕ, Bool, true, false, List, [], ◌∷◌, ◌++◌, eqb}
use Rattle.laws.specs.Choose.{pick}
use Rattle.laws.specs.Bytes.{bytes}
use Rattle.text.specs.Digits.{decimal_of}
use Rattle.tag.specs.Written.{tag_text}
use Rattle.record.specs.Packages.{package_at}
use Rattle.response.specs.declared.Field.{Field}
use Rattle.response.specs.declared.Field.TheVariants.{Nothing, Allow, AllowEvents, MinExpires, Accept, RetryAfter}
use Rattle.response.specs.declared.Outcome.{Outcome}
use Rattle.response.specs.declared.Outcome.TheVariants.{Silent, Refused, Granted}

-- the result of a call: 0 means a message was written
unfoldable pub result_of : Outcome → ℕ
result_of (Silent n) = n
result_of (Refused status field) = 0
result_of (Granted tag time) = 0

-- the status of the message; 0 where there is none
unfoldable pub status_of : Outcome → ℕ
status_of (Silent n) = 0
status_of (Refused status field) = status
status_of (Granted tag time) = 200

-- no message is due
unfoldable pub is_silent : Outcome → Bool
is_silent (Silent n) = true
is_silent (Refused status field) = false
is_silent (Granted tag time) = false

-- the request succeeds
unfoldable pub is_success : Outcome → Bool
is_success (Silent n) = false
is_success (Refused status field) = false
is_success (Granted tag time) = true

-- a code and its phrase
pub record Phrase : Type 0 where
  pub code : ℕ
  pub text : List ℕ

-- the phrase as its code has it
unfoldable pub phrases : List Phrase
phrases =
    record { code = 200; text = bytes "OK" } ∷
    record { code = 400; text = bytes "Bad Request" } ∷
    record { code = 404; text = bytes "Not Found" } ∷
    record { code = 405; text = bytes "Method Not Allowed" } ∷
    record { code = 412; text = bytes "Conditional Request Failed" } ∷
    record { code = 413; text = bytes "Request Entity Too Large" } ∷
    record { code = 415; text = bytes "Unsupported Media Type" } ∷
    record { code = 423; text = bytes "Interval Too Brief" } ∷
    record { code = 489; text = bytes "Bad Event" } ∷
    record { code = 500; text = bytes "Server Internal Error" } ∷
    record { code = 503; text = bytes "Service Unavailable" } ∷
    []

unfoldable pub phrase_in : ℕ → List Phrase → List ℕ
phrase_in code [] = []
phrase_in code (p ∷ ps) = let r = phrase_in code ps in pick (eqb code p.code) p.text r

unfoldable pub phrase_of : ℕ → List ℕ
phrase_of code = phrase_in code phrases

abbrev pub crlf : List ℕ
crlf = bytes "\r\n"

-- a field of ours is its name as spelled here, a colon, one space, the value
unfoldable pub our_field : List ℕ → List ℕ → List ℕ
our_field name value = name ++ (bytes ": " ++ (value ++ crlf))

-- the field of the table, or nothing
unfoldable pub field_line : Field → List ℕ
field_line Nothing = []
field_line Allow = our_field (bytes "Allow") (bytes "PUBLISH")
field_line AllowEvents = our_field (bytes "Allow-Events") (bytes "presence, message-summary, dialog")
field_line (MinExpires least) = our_field (bytes "Min-Expires") (decimal_of least)
field_line (Accept event) = our_field (bytes "Accept") (package_at event).type
field_line (RetryAfter seconds) = our_field (bytes "Retry-After") (decimal_of seconds)

-- for 200 SIP-ETag then Expires (granted); otherwise the field of the table
unfoldable pub field_lines : Outcome → List ℕ
field_lines (Silent n) = []
field_lines (Refused status field) = field_line field
field_lines (Granted tag time) = our_field (bytes "SIP-ETag") (tag_text tag) ++ our_field (bytes "Expires") (decimal_of time)
