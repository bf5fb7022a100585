-- The witness's own frame, which reads state: 02, clock (8 bytes, high first), length of the address (1), address, length of the package (1),
-- package, default body. And what the witness prints for it in the place of the listing's line.
-- Rule 11.9 of docs/RULES.md.
use Rattle.std.specs.Prelude.{ℕ, ◌+◌, ◌-◌, Bool, ◌&&◌, List, ◌++◌, eqb, leb, length}
use Rattle.laws.specs.Bytes.{bytes}
use Rattle.laws.specs.Choose.{pick}
use Rattle.laws.specs.Lists.{byte_at, part}
use Rattle.text.specs.Digits.{decimal_of}
use Rattle.table.specs.Table.{Table}
use Rattle.table.specs.Read.{Query, state_of}
use Rattle.table.specs.declared.Shown.{Shown}
use Rattle.table.specs.declared.Shown.TheVariants.{Stored, Default, Front}
use Rattle.table.specs.declared.State.{State}
use Rattle.listing.specs.Frames.{is_hex, hex_bytes, high_first, frame_of}
use Rattle.listing.specs.Listing.{shown_of}

-- where the length of the package stands, behind the address
unfoldable pub name_from : List ℕ → ℕ
name_from f = 10 + byte_at f 9

-- where the default body begins, behind the package
unfoldable pub default_from : List ℕ → ℕ
default_from f = name_from f + 1 + byte_at f (name_from f)

-- both lengths are there with the bytes that they say, behind 02
unfoldable pub is_reading : List ℕ → Bool
is_reading f = leb (default_from f) (length f) && eqb (byte_at f 0) 2

-- what it asks: address, package and clock
unfoldable pub query_of : List ℕ → Query
query_of f = record { address = part f 10 (name_from f); name = part f (name_from f + 1) (default_from f); clock = high_first 0 (part f 1 9) }

-- where what is shown lies: its place and length in the store, the default's length, or its empty front
unfoldable pub place_text : ℕ → Shown → List ℕ
place_text n (Stored from size) = (bytes "store " ++ decimal_of from) ++ (bytes " " ++ decimal_of size)
place_text n Default = bytes "default " ++ decimal_of n
place_text n Front = bytes "front"

-- "read" and result, and the line of what is shown, where the default has n bytes
unfoldable pub read_text : ℕ → State → List ℕ
read_text n s = (bytes "read " ++ decimal_of s.result) ++ (bytes "\n  shown " ++ place_text n s.shown)

-- what is read, where a frame reads state; otherwise the text given
unfoldable pub read_or : Table → List ℕ → List ℕ → List ℕ
read_or t f other = let read = read_text (length f - default_from f) (state_of (query_of f) t) in pick (is_reading f) read other

-- what the witness says of a line: what its own frame reads, and of any other what the bench says
unfoldable pub witness_text : Table → List ℕ → List ℕ
witness_text t l = let f = hex_bytes l in pick (is_hex l) (read_or t f (shown_of t (frame_of f)).text) (bytes "bad")
