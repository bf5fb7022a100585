-- Bench input written as text that a person can read.
use Rattle.std.specs.Prelude.{ℕ, List, [], ◌∷◌, ◌++◌}
use Prim.Native.String.{String}
use Rattle.laws.specs.Bytes.{bytes}
use Rattle.text.specs.Digits.{hex_digits}

-- bytes as hex digits, two for each
unfoldable pub to_hex : List ℕ → List ℕ
to_hex [] = []
to_hex (b ∷ bs) = hex_digits 2 b ++ to_hex bs

-- the line that adds an address with its start and spent
unfoldable pub add_line : ℕ → ℕ → String → List ℕ
add_line start spent address =
    bytes "00" ++ (hex_digits 8 start ++ (hex_digits 8 spent ++ (to_hex (bytes address) ++ bytes "\n")))

-- the line that sends a request at a clock
unfoldable pub send_line : ℕ → List ℕ → List ℕ
send_line clock request = bytes "01" ++ (hex_digits 16 clock ++ (to_hex request ++ bytes "\n"))

-- lines one after the other
unfoldable pub joined : List (List ℕ) → List ℕ
joined [] = []
joined (l ∷ ls) = l ++ joined ls

-- a PUBLISH to that address: the lines that every request has, these lines, and the end
unfoldable pub publish : String → String → String → List ℕ
publish who lines end =
    joined
    (bytes "PUBLISH " ∷ bytes who ∷ bytes " SIP/2.0\r\nVia: SIP/2.0/UDP pua\r\n" ∷ bytes "From: <" ∷ bytes who ∷ bytes ">;tag=1\r\nTo: <"
    ∷ bytes who ∷ bytes ">\r\nCall-ID: 1\r\nCSeq: 1 PUBLISH\r\n" ∷ bytes lines ∷ bytes end ∷ [])

-- one with no body
unfoldable pub asking : String → String → List ℕ
asking who lines = publish who lines "\r\n"

-- one with a one-byte body of presence's type
unfoldable pub telling : String → String → List ℕ
telling who lines = publish who lines "Content-Type: application/pidf+xml\r\nContent-Length: 1\r\n\r\nx"
