-- One name that opens every definition of this floor, for statements proved by computation.
use Rattle.std.specs.Prelude.{ℕ}
use Rattle.success.specs.Store.{room_at, part_at, part_of, with_part, room, cleared}
use Rattle.success.specs.After.{success_number, given_tag, freed, freed_at, freed_places, is_match, has_body, written_slot, written, ended_places, written_places, places_after, record_after, with_body, part_after}

unfoldable pub all_success : ℕ
unfolding room_at part_at part_of with_part room cleared success_number given_tag freed freed_at freed_places is_match has_body written_slot written ended_places written_places places_after record_after with_body part_after
all_success = 0
