-- A record of a list, and the first sixteen: the all-zero record stands past the end.
use Rattle.std.specs.Prelude.{ℕ, List, [], ◌∷◌, get_or}
use Rattle.record.specs.Places.{empty_record}
use Rattle.record.specs.declared.Record.{Record}

-- record i; the all-zero record past the end
unfoldable pub record_at : List Record → ℕ → Record
record_at xs i = get_or xs i empty_record

-- the first sixteen records, with the all-zero record past the end
unfoldable pub first_sixteen : List Record → List Record
first_sixteen xs =
    record_at xs 0 ∷ record_at xs 1 ∷ record_at xs 2 ∷ record_at xs 3 ∷ record_at xs 4 ∷ record_at xs 5 ∷ record_at xs 6 ∷ record_at xs 7 ∷
    record_at xs 8 ∷ record_at xs 9 ∷ record_at xs 10 ∷ record_at xs 11 ∷ record_at xs 12 ∷ record_at xs 13 ∷ record_at xs 14 ∷ record_at xs 15 ∷ []
