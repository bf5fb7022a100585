-- One name that opens every definition of this floor and of the floors below, for statements proved by computation.
use Rattle.std.specs.Prelude.{ℕ}
use Rattle.text.specs.All.{all_text}
use Rattle.uri.specs.Classes.{is_alphanum, is_hex, is_unreserved, is_reserved, is_user, is_password, is_param_byte, is_header_byte, is_label_byte, is_name_byte, is_other}
use Rattle.uri.specs.Sets.{is_in, set_of}
use Rattle.uri.specs.Escapes.{escapes_whole, escaped_byte, normal, folded}
use Rattle.uri.specs.Units.{is_escape, unit_at}
use Rattle.uri.specs.Pieces.{on_first, pieces, last_piece, but_last}
use Rattle.uri.specs.Host.{last_byte, is_label, is_top_label, is_end, are_labels, is_hostname, is_octet, is_iPv4, is_hex4, is_behind_gap, is_behind_hex4, is_front_gap, is_hexpart, is_iPv6, is_reference, is_host}
use Rattle.uri.specs.Groups.{stepped, may_end}
use Rattle.uri.specs.Read.{scheme_end, user_end, behind_colon, password_end, behind_bracket, host_end, port_end, parameters_end, ends_of, has_user, is_parameter, is_header, pieces_behind, parameters_of, headers_of, user_fits, port_fits, end_fits, is_built, parts_of, read, is_uri}
use Rattle.uri.specs.Alike.{settled, same_parts, name_of, telling, is_loose, named, meets, same_parameters, stands_in, same_headers, same_settled, same_uri, both_same, alike}
use Rattle.uri.specs.Address.{is_bare, is_table_address, same_address, same_written, is_open, reaches}
use Rattle.uri.specs.Parts.{reading_of, label_of, host_of}
use Rattle.uri.specs.Key.{weighed, key_of}

unfoldable pub all_uri : ℕ
unfolding all_text is_alphanum is_hex is_unreserved is_reserved is_user is_password is_param_byte is_header_byte is_label_byte is_name_byte is_other is_in set_of escapes_whole escaped_byte normal folded is_escape unit_at on_first pieces last_piece but_last last_byte is_label is_top_label is_end are_labels is_hostname is_octet is_iPv4 is_hex4 is_behind_gap is_behind_hex4 is_front_gap is_hexpart is_iPv6 is_reference is_host stepped may_end scheme_end user_end behind_colon password_end behind_bracket host_end port_end parameters_end ends_of has_user is_parameter is_header pieces_behind parameters_of headers_of user_fits port_fits end_fits is_built parts_of read is_uri settled same_parts name_of telling is_loose named meets same_parameters stands_in same_headers same_settled same_uri both_same alike is_bare is_table_address same_address same_written is_open reaches reading_of label_of host_of weighed key_of
all_uri = 0
