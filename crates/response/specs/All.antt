-- One name that opens every definition of this floor, for statements proved by computation.
use Rattle.std.specs.Prelude.{ℕ}
use Rattle.response.specs.Outcomes.{result_of, status_of, is_silent, is_success, phrases, phrase_in, phrase_of, our_field, field_line, field_lines}
use Rattle.response.specs.Message.{status_line, tagged_line, to_lines, echoed, message}

unfoldable pub all_response : ℕ
unfolding result_of status_of is_silent is_success phrases phrase_in phrase_of our_field field_line field_lines status_line tagged_line to_lines echoed message
all_response = 0
