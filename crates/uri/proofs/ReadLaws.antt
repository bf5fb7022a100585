-- The laws of reading a URI: its ends one behind the other, and what is asked of a table address.
use mathlib.Core.Path.{◌≡◌}
use mathlib.Core.Bool.{false}
use mathlib.Core.List.{List}
use Prim.Native.Nat.{ℕ, ◌+◌, ◌<◌}
use lib.Dec.{eqb}
use lib.ListN.{length}
use borrow.Author.Tests.{lt-leb}
use Rattle.laws.specs.Choose.{pick}
use Rattle.laws.specs.Lists.{byte_at, part}
use Rattle.text.specs.Runs.{past}
use Rattle.uri.specs.Classes.{is_user, is_password}
use Rattle.text.specs.Class.{is_digit}
use Rattle.uri.specs.Host.{is_host}
use Rattle.uri.specs.Read.{scheme_end, behind_colon, parameters_end, user_end, password_end, port_end, ends_of}
use Rattle.uri.specs.Parts.{host_of}
use Rattle.uri.specs.Address.{is_table_address}
use Rattle.uri.specs.declared.host.Host.{Host}
use Rattle.uri.specs.declared.reading.Ends.{Ends}

-- the ends as they are found, one behind the other
abbrev pub found : ℕ → ℕ → ℕ → ℕ → ℕ → ℕ → ℕ → Ends
found c u w b h p q = record { scheme = c; user = u; password = w; start = b; host = h; port = p; parameters = q }

-- what is found are the ends, and what is told of the host is told of the text between them
pub ends_are : (s : List ℕ) {c u w b p q : ℕ} {h : Host}
    → c ≡ scheme_end s → u ≡ past is_user s c → w ≡ behind_colon is_password s u → b ≡ pick (eqb (byte_at s w) 64) (w + 1) c
    → h ≡ host_of s b → p ≡ behind_colon is_digit s h.end → q ≡ parameters_end s p
    → (found c u w b h.end p q ≡ ends_of s) × (h.fits ≡ is_host (part s b h.end))
unfolding ends_of user_end password_end port_end host_of
ends_are s ec eu ew eb eh ep eq = (rw (eq, ep, eh, eb, ew, eu, ec), rw eh)

-- a text of no bytes is no table address
pub address_none : (a : List ℕ) → length a < 1 → is_table_address a ≡ false
unfolding is_table_address
address_none a h = rw (lt-leb 1 (length a) h)
