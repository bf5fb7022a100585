-- Which addresses a run adds, and how: told by the number of records and the entries, by no table.
-- Rules 5.2, 5.3 of docs/RULES.md.
use Rattle.std.specs.Prelude.{ℕ, Bool, ◌&&◌, not, List, [], ◌∷◌, ◌++◌, ltb, length, get_or}
use Rattle.laws.specs.Choose.{pick}
use Rattle.laws.specs.Lists.{any, place_of}
use Rattle.record.specs.Address.{is_address, same_address}
use Rattle.table.specs.Add.{Entry}
use Rattle.runs.specs.Run.{Run}

-- the entry is that of an address
unfoldable pub is_of : List ℕ → Entry → Bool
is_of a e = same_address a e.address

-- one of these entries is that of the address
unfoldable pub is_among : List ℕ → List Entry → Bool
is_among a es = any (is_of a) es

-- an entry is taken beside those that are there if its address is well formed and not among theirs, and a record is left
unfoldable pub is_taken : ℕ → List Entry → Entry → Bool
is_taken records there e = is_address e.address && (not (is_among e.address there) && ltb (length there) records)

-- those that are there once some more were given to `add`, one after the other
unfoldable pub taken_from : ℕ → List Entry → List Entry → List Entry
taken_from records there [] = there
taken_from records there (e ∷ es) = taken_from records (pick (is_taken records there e) (there ++ (e ∷ [])) there) es

-- the entries that are added, in their order
unfoldable pub added_in : Run → List Entry
added_in r = taken_from (length r.lent.records) [] r.entries

-- the address was added
unfoldable pub is_added : List ℕ → Run → Bool
is_added a r = is_among a (added_in r)

-- how it was added: address, start and spent
unfoldable pub entry_of : List ℕ → Run → Entry
entry_of a r = get_or (added_in r) (place_of (is_of a) (added_in r)) (record { address = []; start = 0; spent = 0 })
