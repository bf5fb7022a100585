-- Adding an address to a table.
-- Rules 5.2 to 5.4, 7.24 of docs/RULES.md.
use Rattle.std.specs.Prelude.{ℕ, not, List, [], ◌∷◌, ltb, eqb, length, replicate}
use Rattle.laws.specs.Choose.{pick}
use Rattle.laws.specs.First.{Row, row, first_of}
use Rattle.laws.specs.Lists.{place_of}
use Rattle.record.specs.Places.{zero_slot, is_in_use}
use Rattle.record.specs.Address.{is_address, padded}
use Rattle.record.specs.Sound.{all_sound}
use Rattle.record.specs.declared.Record.{Record}
use Rattle.table.specs.Table.{Table, bad_size, is_known, with_record}
use Rattle.table.specs.Open.{After}

-- how an address is added: the address, its start and its count of tags spent
pub record Entry : Type 0 where
  pub address : List ℕ
  pub start : ℕ
  pub spent : ℕ

-- the lowest unused record; the number of records where all are in use
unfoldable pub lowest_unused : Table → ℕ
lowest_unused t = place_of (λ r. not (is_in_use r)) t.records

-- adding: 2, 5, then 7 address malformed, 8 address there already, 9 no unused record
unfoldable pub add_refusals : Entry → Table → List (Row ℕ)
add_refusals e t =
    row (bad_size t) 2 ∷
    row (not (all_sound t.records)) 5 ∷
    row (not (is_address e.address)) 7 ∷
    row (is_known e.address t) 8 ∷
    row (not (ltb (lowest_unused t) (length t.records))) 9 ∷
    []

-- in use, address, start and spent; zero in its other fields
unfoldable pub fresh_record : Entry → Record
fresh_record e =
    record {
      used = 1;
      address = padded e.address;
      start = e.start;
      spent = e.spent;
      clock = 0;
      map = 0;
      slots = replicate 8 zero_slot;
    }

-- `add`: the lowest unused record and its 4,096 store bytes are written; every refusal leaves records and store untouched
unfoldable pub added : Entry → Table → After
added e t =
    let result = first_of (add_refusals e t) 0 in
    let written = with_record t (lowest_unused t) (fresh_record e) (replicate 4096 0) in
    record { result = result; table = pick (eqb result 0) written t }
