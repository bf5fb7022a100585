-- One name that opens every definition of this floor and of the floors below, for statements proved by computation.
use Rattle.std.specs.Prelude.{ℕ}
use Rattle.table.specs.All.{all_table}
use Rattle.listing.specs.Lent.{zero_table, open_table, lent_buffer, sending}
use Rattle.listing.specs.Frames.{in_front, lines_of, is_hex, hex_bytes, high_first, add_frame, handle_frame, frame_of, line_frame}
use Rattle.listing.specs.Listing.{field_text, outcome_text, shown_of, listing_from, listing}
use Rattle.listing.specs.Witness.{name_from, default_from, is_reading, query_of, place_text, read_text, read_or, witness_text}
use Rattle.listing.specs.Worked.{entry, at, ann_table, back, run_of, backs, messages}
use Rattle.listing.specs.Input.{to_hex, add_line, send_line, joined, publish, asking, telling}

unfoldable pub all_listing : ℕ
unfolding all_table zero_table open_table lent_buffer sending in_front lines_of is_hex hex_bytes high_first add_frame handle_frame frame_of line_frame field_text outcome_text shown_of listing_from listing name_from default_from is_reading query_of place_text read_text read_or witness_text to_hex add_line send_line joined publish asking telling entry at ann_table back run_of backs messages
all_listing = 0
