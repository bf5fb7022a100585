-- SIP-URI = "sip:" [ userinfo ] hostport uri-parameters [ headers ], and SIPS-URI with "sips:", by RFC 3261 section 25.
-- Rules 12.1 to 12.8 of docs/RULES.md.
use Rattle.std.specs.Prelude.{ℕ, ◌+◌, Bool, ◌&&◌, ◌||◌, not, List, [], eqb, ltb, length}
use Rattle.laws.specs.Choose.{pick}
use Rattle.laws.specs.Bytes.{bytes}
use Rattle.laws.specs.Lists.{byte_at, part, every}
use Rattle.text.specs.Class.{is_digit}
use Rattle.text.specs.Runs.{past}
use Rattle.text.specs.Names.{same_text}
use Rattle.uri.specs.Classes.{is_user, is_password, is_param_byte, is_header_byte, is_name_byte, is_other}
use Rattle.uri.specs.Escapes.{escapes_whole}
use Rattle.uri.specs.Pieces.{pieces}
use Rattle.uri.specs.Host.{is_host}
use Rattle.uri.specs.declared.reading.Ends.{Ends}

-- where the scheme and its colon end, in either case; 0 where it is neither of the two
unfoldable pub scheme_end : List ℕ → ℕ
scheme_end s = pick (same_text (part s 0 4) (bytes "sip:")) 4 (pick (same_text (part s 0 5) (bytes "sips:")) 5 0)

-- where a user that begins there would end
unfoldable pub user_end : List ℕ → ℕ → ℕ
user_end s at = past is_user s at

-- where a colon and the bytes of a class behind it end; the position itself where no colon stands there
unfoldable pub behind_colon : (ℕ → Bool) → List ℕ → ℕ → ℕ
behind_colon f s at = let e = past f s (at + 1) in pick (eqb (byte_at s at) 58) e at

-- [ ":" password ]: where one would end behind a user that ends there
unfoldable pub password_end : List ℕ → ℕ → ℕ
password_end s at = behind_colon is_password s at

-- behind the ] that stands next; the end of the text where none does
unfoldable pub behind_bracket : List ℕ → ℕ → ℕ
behind_bracket s at = let e = past (is_other 93) s at in pick (eqb (byte_at s e) 93) (e + 1) e

-- where the host ends that begins there: behind the ] that closes a [, or behind the bytes of names
unfoldable pub host_end : List ℕ → ℕ → ℕ
host_end s at = let e = behind_bracket s at in let f = past is_name_byte s at in pick (eqb (byte_at s at) 91) e f

-- [ ":" port ]: where it ends behind a host that ends there
unfoldable pub port_end : List ℕ → ℕ → ℕ
port_end s at = behind_colon is_digit s at

-- uri-parameters: they go from a ; to the next ? or the end; none stands where there is no ;
unfoldable pub parameters_end : List ℕ → ℕ → ℕ
parameters_end s at = let e = past (is_other 63) s at in pick (eqb (byte_at s at) 59) e at

-- the ends of the parts: an @ behind what reads as userinfo makes it one, and otherwise the host begins behind the scheme
unfoldable pub ends_of : List ℕ → Ends
ends_of s =
    let c = scheme_end s in
    let u = user_end s c in
    let w = password_end s u in
    let b = pick (eqb (byte_at s w) 64) (w + 1) c in
    let h = host_end s b in
    let p = port_end s h in
    record { scheme = c; user = u; password = w; start = b; host = h; port = p; parameters = parameters_end s p }

-- there is a userinfo
unfoldable pub has_user : List ℕ → Ends → Bool
has_user s e = eqb (byte_at s e.password) 64

-- uri-parameter = pname [ "=" pvalue ], both of one or more paramchars
unfoldable pub is_parameter : List ℕ → Bool
is_parameter p =
    let n = past is_param_byte p 0 in
    let m = past is_param_byte p (n + 1) in
    escapes_whole p && (ltb 0 n && (eqb n (length p) || (eqb (byte_at p n) 61 && (ltb (n + 1) m && eqb m (length p)))))

-- header = hname "=" hvalue, where hvalue may be empty
unfoldable pub is_header : List ℕ → Bool
is_header h =
    let n = past is_header_byte h 0 in
    escapes_whole h && (ltb 0 n && (eqb (byte_at h n) 61 && eqb (past is_header_byte h (n + 1)) (length h)))

-- the pieces behind a mark, up to a position; none where the mark does not stand
unfoldable pub pieces_behind : List ℕ → ℕ → ℕ → ℕ → ℕ → List (List ℕ)
pieces_behind s at mark to c = let ps = pieces c (part s (at + 1) to) in pick (eqb (byte_at s at) mark) ps []

-- *( ";" uri-parameter )
unfoldable pub parameters_of : List ℕ → Ends → List (List ℕ)
parameters_of s e = pieces_behind s e.port 59 e.parameters 59

-- headers = "?" header *( "&" header )
unfoldable pub headers_of : List ℕ → Ends → List (List ℕ)
headers_of s e = pieces_behind s e.parameters 63 (length s) 38

-- a user is not empty, and in user and password every % begins an escape
unfoldable pub user_fits : List ℕ → Ends → Bool
user_fits s e =
    not (has_user s e)
    || (ltb e.scheme e.user && (escapes_whole (part s e.scheme e.user) && escapes_whole (part s e.user e.password)))

-- port = 1*DIGIT
unfoldable pub port_fits : List ℕ → Ends → Bool
port_fits s e = not (eqb (byte_at s e.host) 58) || ltb (e.host + 1) e.port

-- the text ends behind the parameters, or ? and headers follow
unfoldable pub end_fits : List ℕ → Ends → Bool
end_fits s e = eqb e.parameters (length s) || eqb (byte_at s e.parameters) 63

-- the text with these ends is a SIP or SIPS URI
unfoldable pub is_built : List ℕ → Ends → Bool
is_built s e =
    ltb 0 e.scheme
    && (user_fits s e
    && (is_host (part s e.start e.host)
    && (port_fits s e
    && (end_fits s e
    && (every is_parameter (parameters_of s e)
    && every is_header (headers_of s e))))))

-- the parts of a URI as they are written. A part that is not there is empty; a password and a port have their colon with
-- them, so that an empty password is told from none; parameters and headers are whole, names and values.
pub record Uri : Type 0 where
  pub scheme : List ℕ
  pub user : List ℕ
  pub password : List ℕ
  pub host : List ℕ
  pub port : List ℕ
  pub parameters : List (List ℕ)
  pub headers : List (List ℕ)

-- the parts that have these ends
unfoldable pub parts_of : List ℕ → Ends → Uri
parts_of s e =
    let user = part s e.scheme e.user in
    let password = part s e.user e.password in
    record {
      scheme = part s 0 e.scheme;
      user = pick (has_user s e) user [];
      password = pick (has_user s e) password [];
      host = part s e.start e.host;
      port = part s e.host e.port;
      parameters = parameters_of s e;
      headers = headers_of s e;
    }

-- the parts of a URI, or that there are none
pub data Read : Type 0 where
  uri : Uri → Read
  none : Read

-- the parts of a text, or that it is no SIP or SIPS URI
unfoldable pub read : List ℕ → Read
read s = let e = ends_of s in let u = uri (parts_of s e) in pick (is_built s e) u none

-- the text is a SIP or SIPS URI
unfoldable pub is_uri : List ℕ → Bool
is_uri s = is_built s (ends_of s)
