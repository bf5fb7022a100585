-- What the code holds of a URI while it reads it.
use Rattle.std.specs.Prelude.{ℕ, Bool, List, Result, Ok, Err}
use Rattle.laws.specs.Choose.{pick}
use Rattle.laws.specs.Lists.{part}
use Rattle.uri.specs.Escapes.{folded}
use Rattle.uri.specs.Host.{is_label, is_top_label, is_host}
use Rattle.uri.specs.Read.{is_parameter, is_header, host_end, ends_of, is_uri}
use Rattle.uri.specs.Alike.{is_loose}
use Rattle.uri.specs.declared.pieces.Piece.{Piece}
use Rattle.uri.specs.declared.pieces.Piece.TheVariants.{Parameter, Header, Loose}
use Rattle.uri.specs.declared.host.Label.{Label}
use Rattle.uri.specs.declared.host.Host.{Host}
use Rattle.uri.specs.declared.reading.Ends.{Ends}

-- what is asked of each piece
abbrev pub is_piece : Piece → List ℕ → Bool
is_piece Parameter p = is_parameter p
is_piece Header p = is_header p
is_piece Loose p = is_loose (folded p)

-- whether a text is a label, and a toplabel
unfoldable pub label_of : List ℕ → Label
label_of p = record { fits = is_label p; top = is_top_label p }

-- where the host ends that begins at a position, and whether it is one
unfoldable pub host_of : List ℕ → ℕ → Host
host_of s at = record { end = host_end s at; fits = is_host (part s at (host_end s at)) }

-- the ends of a text's parts, as those of a URI or as those of a text that is none
unfoldable pub reading_of : List ℕ → Result Ends Ends
reading_of s = pick (is_uri s) (Ok (ends_of s)) (Err (ends_of s))
