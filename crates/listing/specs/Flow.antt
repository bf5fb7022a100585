-- RFC 3903 section 15: its PUBLISH requests M5, M9 and M11, with our tags, and the responses M6, M10 and M12 as this part writes them.
-- Rule 11.8 of docs/RULES.md.
use Rattle.std.specs.Prelude.{ℕ, List, [], ◌∷◌}
use Prim.Native.String.{String}
use Rattle.laws.specs.Bytes.{bytes}
use Rattle.listing.specs.Input.{joined}

-- lines of text, each with its CR LF
unfoldable pub text : List String → List ℕ
text [] = []
text (l ∷ ls) = joined (bytes l ∷ bytes "\r\n" ∷ text ls ∷ [])

unfoldable pub M5 : List ℕ
M5 =
    joined
    (text
    ("PUBLISH sip:presentity@example.com SIP/2.0"
    ∷ "Via: SIP/2.0/UDP pua.example.com;branch=z9hG4bK652hsge"
    ∷ "To: <sip:presentity@example.com>"
    ∷ "From: <sip:presentity@example.com>;tag=1234wxyz"
    ∷ "Call-ID: 81818181@pua.example.com"
    ∷ "CSeq: 1 PUBLISH"
    ∷ "Max-Forwards: 70"
    ∷ "Expires: 3600"
    ∷ "Event: presence"
    ∷ "Content-Type: application/pidf+xml"
    ∷ "Content-Length: 30"
    ∷ ""
    ∷ [])
    ∷ bytes "[Published PIDF document here]"
    ∷ [])

unfoldable pub M6 : List ℕ
M6 =
    text
    ("SIP/2.0 200 OK"
    ∷ "Via: SIP/2.0/UDP pua.example.com;branch=z9hG4bK652hsge"
    ∷ "From: <sip:presentity@example.com>;tag=1234wxyz"
    ∷ "To: <sip:presentity@example.com>;tag=00000001"
    ∷ "Call-ID: 81818181@pua.example.com"
    ∷ "CSeq: 1 PUBLISH"
    ∷ "SIP-ETag: 9e3779b9"
    ∷ "Expires: 3600"
    ∷ "Content-Length: 0"
    ∷ ""
    ∷ [])

unfoldable pub M9 : List ℕ
M9 =
    text
    ("PUBLISH sip:presentity@example.com SIP/2.0"
    ∷ "Via: SIP/2.0/UDP pua.example.com;branch=z9hG4bK771ash02"
    ∷ "To: <sip:presentity@example.com>"
    ∷ "From: <sip:presentity@example.com>;tag=1234kljk"
    ∷ "Call-ID: 98798798@pua.example.com"
    ∷ "CSeq: 1 PUBLISH"
    ∷ "Max-Forwards: 70"
    ∷ "SIP-If-Match: 9e3779b9"
    ∷ "Expires: 3600"
    ∷ "Event: presence"
    ∷ "Content-Length: 0"
    ∷ ""
    ∷ [])

unfoldable pub M10 : List ℕ
M10 =
    text
    ("SIP/2.0 200 OK"
    ∷ "Via: SIP/2.0/UDP pua.example.com;branch=z9hG4bK771ash02"
    ∷ "From: <sip:presentity@example.com>;tag=1234kljk"
    ∷ "To: <sip:presentity@example.com>;tag=00000001"
    ∷ "Call-ID: 98798798@pua.example.com"
    ∷ "CSeq: 1 PUBLISH"
    ∷ "SIP-ETag: 3c6ef372"
    ∷ "Expires: 3600"
    ∷ "Content-Length: 0"
    ∷ ""
    ∷ [])

unfoldable pub M11 : List ℕ
M11 =
    joined
    (text
    ("PUBLISH sip:presentity@example.com SIP/2.0"
    ∷ "Via: SIP/2.0/UDP pua.example.com;branch=z9hG4bKcdad2"
    ∷ "To: <sip:presentity@example.com>"
    ∷ "From: <sip:presentity@example.com>;tag=54321mm"
    ∷ "Call-ID: 5566778@pua.example.com"
    ∷ "CSeq: 1 PUBLISH"
    ∷ "Max-Forwards: 70"
    ∷ "SIP-If-Match: 3c6ef372"
    ∷ "Expires: 3600"
    ∷ "Event: presence"
    ∷ "Content-Type: application/pidf+xml"
    ∷ "Content-Length: 30"
    ∷ ""
    ∷ [])
    ∷ bytes "[Published PIDF document here]"
    ∷ [])

unfoldable pub M12 : List ℕ
M12 =
    text
    ("SIP/2.0 200 OK"
    ∷ "Via: SIP/2.0/UDP pua.example.com;branch=z9hG4bKcdad2"
    ∷ "From: <sip:presentity@example.com>;tag=54321mm"
    ∷ "To: <sip:presentity@example.com>;tag=00000001"
    ∷ "Call-ID: 5566778@pua.example.com"
    ∷ "CSeq: 1 PUBLISH"
    ∷ "SIP-ETag: daa66d2b"
    ∷ "Expires: 3600"
    ∷ "Content-Length: 0"
    ∷ ""
    ∷ [])
