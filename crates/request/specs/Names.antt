-- The names that we read, with their compact forms.
-- Rules 1.4, 6.9 of docs/RULES.md.
use Rattle.std.specs.Prelude.{ℕ, List, [], ◌∷◌}
use Rattle.laws.specs.Bytes.{bytes}
use Rattle.laws.specs.Lists.{place_of}
use Rattle.text.specs.Names.{is_named}
use Rattle.request.specs.declared.names.Name.{Name}
use Rattle.request.specs.declared.names.Name.TheVariants as name

-- the numbers that we give them
abbrev pub Via : ℕ
Via = 0

abbrev pub From : ℕ
From = 1

abbrev pub To : ℕ
To = 2

abbrev pub Call-ID : ℕ
Call-ID = 3

abbrev pub CSeq : ℕ
CSeq = 4

abbrev pub Content-Type : ℕ
Content-Type = 5

abbrev pub Content-Length : ℕ
Content-Length = 6

abbrev pub Event : ℕ
Event = 7

abbrev pub Expires : ℕ
Expires = 8

abbrev pub SIP-If-Match : ℕ
SIP-If-Match = 9

-- their spellings, in the order of the numbers: compact v f t i c l o mean Via, From, To, Call-ID, Content-Type, Content-Length, Event
unfoldable pub spellings : List (List (List ℕ))
spellings =
    (bytes "Via" ∷ bytes "v" ∷ [])
    ∷ (bytes "From" ∷ bytes "f" ∷ [])
    ∷ (bytes "To" ∷ bytes "t" ∷ [])
    ∷ (bytes "Call-ID" ∷ bytes "i" ∷ [])
    ∷ (bytes "CSeq" ∷ [])
    ∷ (bytes "Content-Type" ∷ bytes "c" ∷ [])
    ∷ (bytes "Content-Length" ∷ bytes "l" ∷ [])
    ∷ (bytes "Event" ∷ bytes "o" ∷ [])
    ∷ (bytes "Expires" ∷ [])
    ∷ (bytes "SIP-If-Match" ∷ [])
    ∷ []

-- names match in either case: the number of the name that a text spells; 10 where it is none of ours
unfoldable pub name_number : List ℕ → ℕ
name_number text = place_of (λ n. is_named n text) spellings

-- the number of a name
abbrev pub number_of : Name → ℕ
number_of name.Via = Via
number_of name.From = From
number_of name.To = To
number_of name.CallId = Call-ID
number_of name.CSeq = CSeq
number_of name.ContentType = Content-Type
number_of name.ContentLength = Content-Length
number_of name.Event = Event
number_of name.Expires = Expires
number_of name.SipIfMatch = SIP-If-Match
