-- Table addresses, and when a URI is one of them.
-- Rules 2.3, 12.9, 12.18, 12.19 of docs/RULES.md.
use Rattle.std.specs.Prelude.{ℕ, Bool, ◌&&◌, List, map, eqb, length}
use Rattle.laws.specs.Lists.{every, same, empty}
use Rattle.text.specs.Class.{from_to}
use Rattle.text.specs.Names.{same_text}
use Rattle.uri.specs.Escapes.{normal, folded}
use Rattle.uri.specs.Read.{ends_of, is_uri, Uri}
use Rattle.uri.specs.Alike.{is_loose, alike}

-- the URI has no parameters and no headers: the text ends behind the port
unfoldable pub is_bare : List ℕ → Bool
is_bare s = eqb (ends_of s).port (length s)

-- a table address: 1 to 64 bytes, a URI, no parameters, no headers
unfoldable pub is_table_address : List ℕ → Bool
is_table_address s = from_to 1 64 (length s) && (is_uri s && is_bare s)

-- a text is that table address: they are the same address
unfoldable pub same_address : List ℕ → List ℕ → Bool
same_address s a = is_table_address a && alike s a

-- scheme, user, password, host and port are the same, part by part
unfoldable pub same_written : Uri → Uri → Bool
same_written u v =
    same_text u.scheme v.scheme
    && (same (normal u.user) (normal v.user)
    && (same (normal u.password) (normal v.password)
    && (same_text u.host v.host
    && same u.port v.port)))

-- a URI with no headers whose parameters may all stand alone
unfoldable pub is_open : Uri → Bool
is_open u = every is_loose (map folded u.parameters) && empty u.headers

-- the short test of a URI against one with no parameters and no headers
unfoldable pub reaches : Uri → Uri → Bool
reaches u address = same_written u address && is_open u
