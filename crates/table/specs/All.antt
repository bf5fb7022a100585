-- One name that opens every definition of this floor and of the floors below, for statements proved by computation.
use Rattle.std.specs.Prelude.{ℕ}
use Rattle.text.specs.All.{all_text}
use Rattle.tag.specs.All.{all_tag}
use Rattle.request.specs.All.{all_request}
use Rattle.record.specs.All.{all_record}
use Rattle.success.specs.All.{all_success}
use Rattle.response.specs.All.{all_response}
use Rattle.publish.specs.All.{all_publish}
use Rattle.table.specs.Table.{bad_size, place_for, is_known, record_at, with_record}
use Rattle.table.specs.Open.{open_refusals, emptied, opened}
use Rattle.table.specs.Add.{lowest_unused, add_refusals, fresh_record, added}
use Rattle.table.specs.Handle.{case_of, table_after, done_with, done}
use Rattle.table.specs.Read.{asked_record, asked_rows, read_refusals, body_at, newest_body, shown_for, state_with, state_of, shown_bytes, readout_of}
use Rattle.table.specs.Run.{add_all, answer_in, in_front_of, send_each, begun, ran}

unfoldable pub all_table : ℕ
unfolding all_text all_tag all_request all_record all_success all_response all_publish bad_size place_for is_known record_at with_record open_refusals emptied opened lowest_unused add_refusals fresh_record added case_of table_after done_with done asked_record asked_rows read_refusals body_at newest_body shown_for state_with state_of shown_bytes readout_of add_all answer_in in_front_of send_each begun ran
all_table = 0
