-- Addresses: which are well formed, how a record holds one, and when a text is that address.
-- Rules 2.3, 4.4, 4.14, 4.15 of docs/RULES.md.
use Rattle.std.specs.Prelude.{ℕ, ◌-◌, Bool, ◌&&◌, not, List, ◌++◌, eqb, length, drop, replicate}
use Rattle.laws.specs.Lists.{every, same}
use Rattle.text.specs.Class.{is_visible, from_to}
use Rattle.text.specs.Runs.{front}
use Rattle.record.specs.Places.{is_in_use}
use Rattle.record.specs.declared.Record.{Record}

-- an address is 1 to 64 bytes, each 33 to 126
unfoldable pub is_address : List ℕ → Bool
is_address a = from_to 1 64 (length a) && every is_visible a

-- the address of a record: its bytes up to the first zero
unfoldable pub address_of : Record → List ℕ
address_of r = front (λ b. not (eqb b 0)) r.address

-- an address in its 64 bytes, zero past its end
unfoldable pub padded : List ℕ → List ℕ
padded a = a ++ replicate (64 - length a) 0

-- the record's address is well formed, and zero past its end
unfoldable pub has_address : Record → Bool
has_address r = is_address (address_of r) && every (eqb 0) (drop (length (address_of r)) r.address)

-- a text is that address: compared byte by byte
unfoldable pub same_address : List ℕ → List ℕ → Bool
same_address a b = same a b

-- the record is in use for that address
unfoldable pub is_for : List ℕ → Record → Bool
is_for a r = is_in_use r && same_address a (address_of r)
