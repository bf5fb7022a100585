-- The paper's eleven lines: their input as text, and the listing.
-- Rule 11.7 of docs/RULES.md.
use Rattle.std.specs.Prelude.{ℕ, List, [], ◌∷◌}
use Rattle.laws.specs.Bytes.{bytes}
use Rattle.listing.specs.Input.{add_line, send_line, joined, asking, telling}

-- add ann (start 0, spent 0), add bo (start 1, spent 0), then requests 3 to 11
unfoldable pub eleven_input : List ℕ
eleven_input =
    joined
    (add_line 0 0 "ann"
    ∷ add_line 1 0 "bo"
    ∷ send_line 100 (telling "ann" "Event: presence\r\nExpires: 3600\r\n")
    ∷ send_line 110 (asking "ann" "Event: message-summary\r\nSIP-If-Match: 9e3779b9\r\n")
    ∷ send_line 120 (telling "bo" "Event: presence\r\n")
    ∷ send_line 130 (asking "ann" "Event: presence\r\nSIP-If-Match: 9e3779b9\r\nExpires: 30\r\n")
    ∷ send_line 3699 (asking "ann" "Event: presence\r\nSIP-If-Match: 9e3779b9\r\nExpires: 60\r\n")
    ∷ send_line 3700 (asking "ann" "Event: presence\r\nSIP-If-Match: 9e3779b9\r\n")
    ∷ send_line 3759 (asking "ann" "Event: presence\r\nSIP-If-Match: 3c6ef372\r\n")
    ∷ send_line 3698 (telling "ann" "Event: presence\r\n")
    ∷ send_line 3759 (telling "ann" "Event: presence\r\nExpires: 0\r\n")
    ∷ [])

-- the listing, as the paper prints it
unfoldable pub eleven_lines : List ℕ
eleven_lines =
    joined
    (bytes "publish bench\n"
    ∷ bytes "1 add 0\n"
    ∷ bytes "2 add 0\n"
    ∷ bytes "3 200 9e3779b9 3600\n"
    ∷ bytes "4 412 - -\n"
    ∷ bytes "5 200 9e3779ba 3600\n"
    ∷ bytes "6 423 - 60\n"
    ∷ bytes "7 200 3c6ef372 60\n"
    ∷ bytes "8 412 - -\n"
    ∷ bytes "9 412 - -\n"
    ∷ bytes "10 500 - -\n"
    ∷ bytes "11 200 daa66d2b 0\n"
    ∷ [])
