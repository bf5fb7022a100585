-- One name that opens every definition of this floor, for statements proved by computation.
use Rattle.std.specs.Prelude.{ℕ}
use Rattle.request.specs.FirstLine.{crlf_at, version_at, is_first_line, first_line}
use Rattle.request.specs.HeaderLines.{header_line, name_of, value_of, bare_line, whole_line, copied, behind, from_line, header_lines}
use Rattle.request.specs.Names.{spellings, name_number}
use Rattle.request.specs.To.{next_quote, is_outside, shown_in, outside_quotes, quotes_close, behind_first, has, angle_closes, parameter_text, is_tag, some_tag, to_value}
use Rattle.request.specs.Head.{lines_in, lines_after, lines_of, lines_named, seen_in, seen_of, with_headers, with_first_line, head_of, method_of, uri_of, seen_at, absent, once, repeated, value_named, is_closed, stand_as_they_must, is_readable}
use Rattle.request.specs.Fields.{is_cSeq, cseq_fits, there, content_length, content_length_fits, expires, expires_fits, is_bad_request, body_length, body, event_text, has_type, has_match, match_text, is_bad_match}

unfoldable pub all_request : ℕ
unfolding crlf_at version_at is_first_line first_line header_line name_of value_of bare_line whole_line copied behind from_line header_lines spellings name_number next_quote is_outside shown_in outside_quotes quotes_close behind_first has angle_closes parameter_text is_tag some_tag to_value lines_in lines_after lines_of lines_named seen_in seen_of with_headers with_first_line head_of method_of uri_of seen_at absent once repeated value_named is_closed stand_as_they_must is_readable is_cSeq cseq_fits there content_length content_length_fits expires expires_fits is_bad_request body_length body event_text has_type has_match match_text is_bad_match
all_request = 0
