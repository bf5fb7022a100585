-- One name that opens every definition of this floor, for statements proved by computation.
use Rattle.std.specs.Prelude.{ℕ}
use Rattle.publish.specs.Refusals.{is_bad_size, event_of, requested, granted, presented, is_bad_event, is_unmatched, is_too_brief, is_other_type, is_nothing, is_full, size_rows, reading_rows, address_rows, content_rows, room_rows, request_rows, refusals, outcome_of}
use Rattle.publish.specs.Step.{success_for, success_of, answer_of, own_after, part_afterwards}

unfoldable pub all_publish : ℕ
unfolding is_bad_size event_of requested granted presented is_bad_event is_unmatched is_too_brief is_other_type is_nothing is_full size_rows reading_rows address_rows content_rows room_rows request_rows refusals outcome_of success_for success_of answer_of own_after part_afterwards
all_publish = 0
