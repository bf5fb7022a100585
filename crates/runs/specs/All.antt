-- One name that opens every definition of this floor and of the floors below, for statements proved by computation.
use Rattle.std.specs.Prelude.{ℕ}
use Rattle.listing.specs.All.{all_listing}
use Rattle.runs.specs.Run.{has_room, has_numbers, given, exchanges, table_at_end, inputs, accepted_from, accepted}
use Rattle.runs.specs.Added.{is_of, is_among, is_taken, taken_from, added_in, is_added, entry_of}
use Rattle.runs.specs.Reach.{rows_before, is_read, is_for, is_for_none, inputs_for, history_of}
use Rattle.runs.specs.Alone.{case_at, answered, beginning, alone_from, alone, next, life_of, elsewhere}
use Rattle.runs.specs.Tags.{has_tag, tag_in, package_in, came_back, succeeded, tag_of_outcome, time_of_outcome, tag_given, end_of, gave, presented_tag, some_left, stands, is_not_back, is_tried, matched, tags_given, all_differ}
use Rattle.runs.specs.Worked.{junk_record, junk_table, entry_with, sent, calls, tells, asks, slot_numbers, record_numbers, numbers_of, sides_from, for_any_package, to_the_end, though_presented, presented_as_written, wrong_from, wrong_at, shown_of}

unfoldable pub all_runs : ℕ
unfolding all_listing has_room has_numbers given exchanges table_at_end inputs accepted_from accepted is_of is_among is_taken taken_from added_in is_added entry_of rows_before is_read is_for is_for_none inputs_for history_of case_at answered beginning alone_from alone next life_of elsewhere has_tag tag_in package_in came_back succeeded tag_of_outcome time_of_outcome tag_given end_of gave presented_tag some_left stands is_not_back is_tried matched tags_given all_differ junk_record junk_table entry_with sent calls tells asks slot_numbers record_numbers numbers_of sides_from for_any_package to_the_end though_presented presented_as_written wrong_from wrong_at shown_of
all_runs = 0
