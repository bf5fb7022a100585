-- One name that opens every definition of this floor, for statements proved by computation.
use Rattle.std.specs.Prelude.{ℕ}
use Rattle.record.specs.Packages.{packages, package_at, package_named, is_listed}
use Rattle.record.specs.Map.{lowest_free_in, occupied_in, has_place, with_place, without_place}
use Rattle.record.specs.Places.{is_in_use, is_whole, places_in, places, map_of, slots_of, occupied, is_live, live, smaller, least_from, least_end, matching, lowest_free, is_of, newest}
use Rattle.record.specs.Address.{is_address, address_of, padded, has_address, same_address, is_for}
use Rattle.record.specs.Sound.{is_sound_slot, tags_differ, numbers_differ, slots_differ, is_sound, addresses_differ, all_sound}

unfoldable pub all_record : ℕ
unfolding packages package_at package_named is_listed lowest_free_in occupied_in has_place with_place without_place is_in_use is_whole places_in places map_of slots_of occupied is_live live smaller least_from least_end matching lowest_free is_of newest is_address address_of padded has_address same_address is_for is_sound_slot tags_differ numbers_differ slots_differ is_sound addresses_differ all_sound
all_record = 0
