-- RFC 3261 section 19.1.4: when two URIs are the same address.
-- Rules 12.10 to 12.17 of docs/RULES.md.
use Rattle.std.specs.Prelude.{ℕ, Bool, false, ◌&&◌, not, List, [], ◌∷◌, map}
use Rattle.laws.specs.Choose.{pick}
use Rattle.laws.specs.Bytes.{bytes}
use Rattle.laws.specs.Lists.{any, every, same}
use Rattle.text.specs.Runs.{front}
use Rattle.text.specs.Names.{lowered}
use Rattle.uri.specs.Classes.{is_other}
use Rattle.uri.specs.Escapes.{normal, folded}
use Rattle.uri.specs.Read.{Uri, Read, uri, none, read}

-- a URI with all that counts for nothing taken out: case, but in user and password; and escapes of bytes that are not reserved
unfoldable pub settled : Uri → Uri
settled u =
    record {
      scheme = lowered u.scheme;
      user = normal u.user;
      password = normal u.password;
      host = lowered u.host;
      port = u.port;
      parameters = map folded u.parameters;
      headers = map folded u.headers;
    }

-- scheme, user, password, host and port are the same
unfoldable pub same_parts : Uri → Uri → Bool
same_parts u v =
    same u.scheme v.scheme
    && (same u.user v.user
    && (same u.password v.password
    && (same u.host v.host
    && same u.port v.port)))

-- the name of a parameter: what stands before a bare =
unfoldable pub name_of : List ℕ → List ℕ
name_of p = front (is_other 61) p

-- the parameters that make two URIs differ where only one of them has it
unfoldable pub telling : List (List ℕ)
telling = bytes "transport" ∷ bytes "user" ∷ bytes "ttl" ∷ bytes "method" ∷ bytes "maddr" ∷ []

-- a parameter that may stand in one URI alone
unfoldable pub is_loose : List ℕ → Bool
is_loose p = not (any (same (name_of p)) telling)

-- among these parameters one has that name
unfoldable pub named : List ℕ → List (List ℕ) → Bool
named p qs = any (λ q. same (name_of p) (name_of q)) qs

-- a parameter finds its like among the other URI's: one of its name and value, or, where none has its name, it may stand alone
unfoldable pub meets : List (List ℕ) → List ℕ → Bool
meets qs p = let loose = is_loose p in pick (named p qs) (any (same p) qs) loose

-- each parameter of both finds its like in the other
unfoldable pub same_parameters : List (List ℕ) → List (List ℕ) → Bool
same_parameters ps qs = every (meets qs) ps && every (meets ps) qs

-- a header stands among the other URI's, with its value
unfoldable pub stands_in : List (List ℕ) → List ℕ → Bool
stands_in hs h = any (same h) hs

-- each header of both stands in the other, in any order
unfoldable pub same_headers : List (List ℕ) → List (List ℕ) → Bool
same_headers hs ks = every (stands_in ks) hs && every (stands_in hs) ks

-- two settled URIs are the same address
unfoldable pub same_settled : Uri → Uri → Bool
same_settled u v =
    same_parts u v && (same_parameters u.parameters v.parameters && same_headers u.headers v.headers)

-- two URIs are the same address
unfoldable pub same_uri : Uri → Uri → Bool
same_uri u v = same_settled (settled u) (settled v)

-- both were read, and are the same address
unfoldable pub both_same : Read → Read → Bool
both_same (uri u) (uri v) = same_uri u v
both_same (uri u) none = false
both_same none r = false

-- two texts are URIs, and the same address
unfoldable pub alike : List ℕ → List ℕ → Bool
alike s t = both_same (read s) (read t)
