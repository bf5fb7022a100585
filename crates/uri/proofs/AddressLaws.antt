-- The laws of table addresses: against one of them the short test is the relation of any two URIs, and there the relation carries on.
use mathlib.Core.Path.{◌≡◌, refl, sym, ◌∙◌, ap}
use mathlib.Core.Bool.{Bool, true, false, ◌&&◌, ◌||◌, false≢true}
use mathlib.Core.List.{List, [], ◌∷◌, map}
use Prim.Native.Nat.{ℕ, ◌+◌, ◌<◌, ◌≤◌}
use native.Mathlib.Omega.{arith}
use lib.Dec.{eqb, ltb, leb}
use lib.ListN.{length}
use borrow.Author.Tests.{eqb-true, leb-true, eq-eqb, ne_eqb}
use Rattle.std.proofs.Common.{Some, None, Ok, Err}
use Rattle.std.specs.Bool.{then_some}
use Rattle.laws.specs.Choose.{pick}
use Rattle.laws.specs.Lists.{byte_at, part, any, every, same, empty}
use Rattle.laws.proofs.Lists.{every_map}
use Rattle.laws.proofs.Tests.{and_left, and_right, and_both, same_equal, same_turned}
use Rattle.text.specs.Class.{from_to}
use Rattle.text.specs.Names.{lowered, same_text}
use Rattle.text.proofs.RunLaws.{byte_past}
use Rattle.uri.specs.Escapes.{normal, folded}
use Rattle.uri.specs.Pieces.{pieces}
use Rattle.uri.specs.Read.{Uri, read, is_uri, ends_of, parts_of, parameters_end, pieces_behind, parameters_of, headers_of, end_fits, is_built, user_fits, port_fits, is_parameter, is_header}
use Rattle.uri.specs.Host.{is_host}
use Rattle.uri.specs.Alike.{settled, same_parts, is_loose, named, meets, same_parameters, stands_in, same_headers, same_settled, same_uri, both_same, alike}
use Rattle.uri.specs.Address.{is_bare, is_table_address, same_address, same_written, is_open, reaches}
use Rattle.uri.specs.Key.{weighed, key_of}
use Rattle.uri.specs.All.{all_uri}
use Rattle.uri.specs.Parts.{reading_of}
use Rattle.uri.specs.declared.reading.Ends.{Ends}
use Rattle.uri.proofs.PieceLaws.{pieces_some, empty_some}
use Rattle.uri.proofs.AlikeLaws.{read_uri, read_none, alike_self, alike_turned}

-- the parts of a text
abbrev pub parts : List ℕ → Uri
parts s = parts_of s (ends_of s)

-- headers against none: there are none
headers_alone : (hs : List (List ℕ)) → empty hs ≡ same_headers (map folded hs) []
unfolding same_headers every stands_in any empty
headers_alone [] = refl
headers_alone (h ∷ hs) = refl

and_true : (a : Bool) → a ≡ (a && true)
and_true true = refl
and_true false = refl

-- parameters against none: each may stand alone
parameters_alone : (ps : List (List ℕ)) → every is_loose ps ≡ same_parameters ps []
unfolding same_parameters meets named any every
parameters_alone ps = and_true (every is_loose ps)

-- parameters and headers against none
alone : (ps qs hs ks : List (List ℕ)) → qs ≡ [] → ks ≡ []
    → (every is_loose (map folded ps) && empty hs) ≡ (same_parameters (map folded ps) (map folded qs) && same_headers (map folded hs) (map folded ks))
alone ps qs hs ks p h = rw (p, h, parameters_alone (map folded ps), headers_alone hs)

-- the short test against a URI with no parameters and no headers is the relation
pub short : (u v : Uri) → v.parameters ≡ [] → v.headers ≡ [] → reaches u v ≡ same_uri u v
unfolding reaches same_written is_open same_uri same_settled settled same_parts same_text
short u v p h = ap (λ (x : Bool). same_written u v && x) (alone u.parameters v.parameters u.headers v.headers p h)

-- the parameters begin where the port ends
parameters_from : (s : List ℕ) → (ends_of s).parameters ≡ parameters_end s (ends_of s).port
unfolding ends_of
parameters_from s = refl

module _ (s : List ℕ) (b : is_bare s ≡ true) where
  at_end : (ends_of s).port ≡ length s
  unfolding is_bare
  at_end = eqb-true (ends_of s).port (length s) b

  past_port : byte_at s (ends_of s).port ≡ 256
  past_port = rw at_end (byte_past s (length s) (omega arith))

  -- a bare URI has no parameters
  pub bare_parameters : (parts s).parameters ≡ []
  unfolding parts_of parameters_of pieces_behind
  bare_parameters = rw past_port

  none_there : parameters_end s (ends_of s).port ≡ (ends_of s).port
  unfolding parameters_end
  none_there = rw past_port

  past_parameters : byte_at s (ends_of s).parameters ≡ 256
  past_parameters = ap (byte_at s) (parameters_from s ∙ none_there) ∙ past_port

  -- and no headers
  pub bare_headers : (parts s).headers ≡ []
  unfolding parts_of headers_of pieces_behind
  bare_headers = rw past_parameters

none_there_is : (ps : List (List ℕ)) → 0 < length ps → ps ≡ [] → ⊥
none_there_is ps h e = let z : length ps ≡ 0 = ap length e in omega arith

-- where there are no pieces, the byte in front of them is not there
piece_byte : (b : Bool) (c : ℕ) (s : List ℕ) → pick b (pieces c s) [] ≡ [] → b ≡ false
piece_byte true c s e = absurd (none_there_is (pieces c s) (pieces_some c s) e)
piece_byte false c s e = refl

-- of two tests of which one holds, the first where the second fails
or_only : (a b : Bool) → (a || b) ≡ true → b ≡ false → a ≡ true
or_only true b e f = refl
or_only false b e f = absurd (false≢true (sym f ∙ e))

-- the fifth of some tests that hold
fifth : (a b c d e f : Bool) → (a && (b && (c && (d && (e && f))))) ≡ true → e ≡ true
fifth a b c d e f h =
    and_left e f (and_right d (e && f) (and_right c (d && (e && f)) (and_right b (c && (d && (e && f))) (and_right a (b && (c && (d && (e && f)))) h))))

-- the text ends behind the parameters of a URI, or headers follow
end_fits_lem : (s : List ℕ) → is_uri s ≡ true → end_fits s (ends_of s) ≡ true
unfolding is_uri is_built
end_fits_lem s y =
    let e = ends_of s in
    fifth (ltb 0 e.scheme) (user_fits s e) (is_host (part s e.start e.host)) (port_fits s e) (end_fits s e)
    (every is_parameter (parameters_of s e) && every is_header (headers_of s e)) y

module _ (s : List ℕ) (y : is_uri s ≡ true) (p : (parts s).parameters ≡ []) (h : (parts s).headers ≡ []) where
  no_semicolon : eqb (byte_at s (ends_of s).port) 59 ≡ false
  unfolding parts_of parameters_of pieces_behind
  no_semicolon = piece_byte _ 59 (part s ((ends_of s).port + 1) (ends_of s).parameters) p

  no_question : eqb (byte_at s (ends_of s).parameters) 63 ≡ false
  unfolding parts_of headers_of pieces_behind
  no_question = piece_byte _ 38 (part s ((ends_of s).parameters + 1) (length s)) h

  to_port : parameters_end s (ends_of s).port ≡ (ends_of s).port
  unfolding parameters_end
  to_port = rw no_semicolon

  ends_there : eqb (ends_of s).parameters (length s) ≡ true
  unfolding end_fits
  ends_there = or_only (eqb (ends_of s).parameters (length s)) (eqb (byte_at s (ends_of s).parameters) 63) (end_fits_lem s y) no_question

  -- a URI with no parameters and no headers is bare
  pub bare_is : is_bare s ≡ true
  unfolding is_bare
  bare_is = ap (λ (n : ℕ). eqb n (length s)) (sym (parameters_from s ∙ to_port)) ∙ ends_there

module _ (s t : List ℕ) where
  -- between texts: the short test against a bare URI is the relation
  pub short_alike : is_uri s ≡ true → is_uri t ≡ true → is_bare t ≡ true → reaches (parts s) (parts t) ≡ alike s t
  unfolding alike both_same
  short_alike y z b = rw (read_uri s y, read_uri t z) (short (parts s) (parts t) (bare_parameters t b) (bare_headers t b))

  -- texts that are alike are URIs
  pub alike_first : alike s t ≡ true → is_uri s ≡ true
  unfolding alike both_same
  alike_first e = go (is_uri s) refl
    where
      go : (b : Bool) → is_uri s ≡ b → is_uri s ≡ true
      go true h = h
      go false h = absurd (false≢true (ap (λ r. both_same r (read t)) (sym (read_none s h)) ∙ e))

-- both of them
pub alike_second : (s t : List ℕ) → alike s t ≡ true → is_uri t ≡ true
alike_second s t e = alike_first t s (alike_turned t s ∙ e)

-- comparing carries on
same_on : (a b c : List ℕ) → same a b ≡ true → same b c ≡ true → same a c ≡ true
same_on a b c h k = rw (same_equal a b h) k

text_on : (a b c : List ℕ) → same_text a b ≡ true → same_text b c ≡ true → same_text a c ≡ true
unfolding same_text
text_on a b c h k = same_on (lowered a) (lowered b) (lowered c) h k

and_false : (a b : Bool) → b ≡ false → (a && b) ≡ false
and_false true b e = e
and_false false b e = refl

module _ (s : List ℕ) (e : Ends) where
  -- headers stand in the way
  pub open_headers : byte_at s e.parameters ≡ 63 → is_open (parts_of s e) ≡ false
  unfolding is_open parts_of headers_of pieces_behind
  open_headers h =
      and_false (every is_loose (map folded (parameters_of s e))) _
      (rw (eq-eqb (byte_at s e.parameters) 63 h) (empty_some _ (λ n. let h = pieces_some 38 (part s (e.parameters + 1) (length s)) in omega arith)))

  -- without them each of the parameters is asked
  pub open_each : (byte_at s e.parameters ≡ 63 → ⊥) → is_open (parts_of s e) ≡ every (λ p. is_loose (folded p)) (parameters_of s e)
  unfolding is_open parts_of headers_of pieces_behind empty
  open_each h = rw (ne_eqb (byte_at s e.parameters) 63 h) (sym (and_true _) ∙ every_map folded is_loose (parameters_of s e))

-- what the five comparisons say
record Written (u v : Uri) : Type 0 where
  scheme : same_text u.scheme v.scheme ≡ true
  user : same (normal u.user) (normal v.user) ≡ true
  password : same (normal u.password) (normal v.password) ≡ true
  host : same_text u.host v.host ≡ true
  port : same u.port v.port ≡ true

written : (u v : Uri) → same_written u v ≡ true → Written u v
unfolding same_written
written u v h =
    let p2 = and_right (same_text u.scheme v.scheme) _ h in
    let p3 = and_right (same (normal u.user) (normal v.user)) _ p2 in
    let p4 = and_right (same (normal u.password) (normal v.password)) _ p3 in
    record {
      scheme = and_left (same_text u.scheme v.scheme) _ h;
      user = and_left (same (normal u.user) (normal v.user)) _ p2;
      password = and_left (same (normal u.password) (normal v.password)) _ p3;
      host = and_left (same_text u.host v.host) _ p4;
      port = and_right (same_text u.host v.host) _ p4;
    }

written_on : (u v w : Uri) → Written u v → Written v w → same_written u w ≡ true
unfolding same_written
written_on u v w h k =
    rw (
      text_on u.scheme v.scheme w.scheme h.scheme k.scheme,
      same_on (normal u.user) (normal v.user) (normal w.user) h.user k.user,
      same_on (normal u.password) (normal v.password) (normal w.password) h.password k.password,
      text_on u.host v.host w.host h.host k.host,
      same_on u.port v.port w.port h.port k.port,
    )

reaches_on : (u v w : Uri) → reaches u v ≡ true → reaches v w ≡ true → reaches u w ≡ true
unfolding reaches
reaches_on u v w h k =
    and_both (same_written u w) (is_open u)
    (written_on u v w (written u v (and_left (same_written u v) (is_open u) h)) (written v w (and_left (same_written v w) (is_open v) k)))
    (and_right (same_written u v) (is_open u) h)

-- the comparisons do not ask which stands first
written_turned : (u v : Uri) → Written u v → Written v u
unfolding same_text
written_turned u v h =
    record {
      scheme = same_turned (lowered v.scheme) (lowered u.scheme) ∙ h.scheme;
      user = same_turned (normal v.user) (normal u.user) ∙ h.user;
      password = same_turned (normal v.password) (normal u.password) ∙ h.password;
      host = same_turned (lowered v.host) (lowered u.host) ∙ h.host;
      port = same_turned v.port u.port ∙ h.port;
    }

-- nothing stands in the way of a URI with no parameters and no headers
open_bare : (u : Uri) → u.parameters ≡ [] → u.headers ≡ [] → is_open u ≡ true
unfolding is_open every empty
open_bare u p h = rw (p, h)

reaches_both : (u v w : Uri) → v.parameters ≡ [] → v.headers ≡ [] → reaches u v ≡ true → reaches u w ≡ true → reaches v w ≡ true
unfolding reaches
reaches_both u v w p q h k =
    and_both (same_written v w) (is_open v)
    (written_on v u w (written_turned u v (written u v (and_left (same_written u v) (is_open u) h)))
    (written u w (and_left (same_written u w) (is_open u) k)))
    (open_bare v p q)

module _ (s t r : List ℕ) (b : is_bare t ≡ true) (c : is_bare r ≡ true) where
  -- what is the same as a bare URI is the same as each bare one that is the same as that
  pub alike_on : alike s t ≡ true → alike t r ≡ true → alike s r ≡ true
  alike_on h k =
      let y = alike_first s t h in
      let z = alike_second s t h in
      let v = alike_second t r k in
      sym (short_alike s r y v c)
      ∙ reaches_on (parts s) (parts t) (parts r) (short_alike s t y z b ∙ h) (short_alike t r z v c ∙ k)

  -- two bare URIs that are the same as one URI are the same
  pub alike_both : alike s t ≡ true → alike s r ≡ true → alike t r ≡ true
  alike_both h k =
      let y = alike_first s t h in
      let z = alike_second s t h in
      let v = alike_second s r k in
      sym (short_alike t r z v c)
      ∙ reaches_both (parts s) (parts t) (parts r) (bare_parameters t b) (bare_headers t b) (short_alike s t y z b ∙ h) (short_alike s r y v c ∙ k)

-- a table address has at most 64 bytes
pub address_short : (a : List ℕ) → is_table_address a ≡ true → length a ≤ 64
unfolding is_table_address
address_short a e = leb-true (length a) 64 (and_right (leb 1 (length a)) _ (and_left (from_to 1 64 (length a)) _ e))

-- it is a URI
pub address_uri : (a : List ℕ) → is_table_address a ≡ true → is_uri a ≡ true
unfolding is_table_address
address_uri a e = and_left (is_uri a) (is_bare a) (and_right (from_to 1 64 (length a)) (is_uri a && is_bare a) e)

-- with no parameters and no headers
pub address_bare : (a : List ℕ) → is_table_address a ≡ true → is_bare a ≡ true
unfolding is_table_address
address_bare a e = and_right (is_uri a) (is_bare a) (and_right (from_to 1 64 (length a)) (is_uri a && is_bare a) e)

-- a text that is that table address: it is one, and both are the same address
pub same_table : (s a : List ℕ) → same_address s a ≡ true → is_table_address a ≡ true
unfolding same_address
same_table s a e = and_left (is_table_address a) (alike s a) e

pub same_alike : (s a : List ℕ) → same_address s a ≡ true → alike s a ≡ true
unfolding same_address
same_alike s a e = and_right (is_table_address a) (alike s a) e

pub alike_same : (s a : List ℕ) → is_table_address a ≡ true → alike s a ≡ true → same_address s a ≡ true
unfolding same_address
alike_same s a h e = and_both (is_table_address a) (alike s a) h e

-- such a text is a URI
pub same_uri_lem : (s a : List ℕ) → same_address s a ≡ true → is_uri s ≡ true
same_uri_lem s a e = alike_first s a (same_alike s a e)

-- against a table address the question is the short test
pub same_short : (s a : List ℕ) → is_table_address a ≡ true → is_uri s ≡ true → same_address s a ≡ reaches (parts s) (parts a)
unfolding same_address
same_short s a h y = rw h (sym (short_alike s a y (address_uri a h) (address_bare a h)))

-- what is told where a test holds, and where it fails
module _ {A : Type 0} (y : A) where
  told_holds : (b : Bool) {x : A} → Some x ≡ then_some b y → b ≡ true
  told_holds true e = refl
  told_holds false e = cc

  told_same : (b : Bool) {x : A} → Some x ≡ then_some b y → x ≡ y
  told_same true e = cc
  told_same false e = cc

  told_fails : (b : Bool) → None ≡ then_some b y → b ≡ false
  told_fails true e = cc
  told_fails false e = refl

-- what is read of a URI, and of a text that is none
module _ {A : Type 0} (y : A) where
  read_holds : (b : Bool) {x : A} → Ok x ≡ pick b (Ok y) (Err y) → b ≡ true
  read_holds true e = refl
  read_holds false e = cc

  read_same : (b : Bool) {x : A} → Ok x ≡ pick b (Ok y) (Err y) → x ≡ y
  read_same true e = cc
  read_same false e = cc

  read_fails : (b : Bool) {x : A} → Err x ≡ pick b (Ok y) (Err y) → b ≡ false
  read_fails true e = cc
  read_fails false e = refl

-- the same, with what was read of both
pub same_asked : (s a : List ℕ) {e f : Ends} → Some f ≡ then_some (is_table_address a) (ends_of a) → Ok e ≡ reading_of s
    → same_address s a ≡ (same_written (parts_of s e) (parts_of a f) && is_open (parts_of s e))
unfolding reading_of reaches
same_asked s a h k = rw (told_same _ _ h, read_same _ _ k) (same_short s a (told_holds _ _ h) (read_holds _ _ k))

-- what is no URI is no table address's
pub same_none : (s a : List ℕ) → is_uri s ≡ false → same_address s a ≡ false
same_none s a e = go (same_address s a) refl
  where
    go : (b : Bool) → same_address s a ≡ b → same_address s a ≡ false
    go true h = absurd (false≢true (sym e ∙ same_uri_lem s a h))
    go false h = h

-- the same, with what was read of it
pub same_unread : (s a : List ℕ) (e : Ends) → Err e ≡ reading_of s → same_address s a ≡ false
unfolding reading_of
same_unread s a e h = same_none s a (read_fails _ _ h)

-- nor is any text what is no table address
pub same_not : (s a : List ℕ) → None ≡ then_some (is_table_address a) (ends_of a) → same_address s a ≡ false
unfolding same_address
same_not s a e = rw (told_fails _ _ e)

-- every table address is itself
pub same_self : (a : List ℕ) → is_table_address a ≡ true → same_address a a ≡ true
same_self a h = alike_same a a h (alike_self a (address_uri a h))

-- between table addresses it does not matter which is asked about
pub same_turns : (a b : List ℕ) → is_table_address a ≡ true → is_table_address b ≡ true → same_address a b ≡ same_address b a
unfolding same_address
same_turns a b h k = rw (h, k) (alike_turned a b)

module _ (s a b : List ℕ) where
  -- a text that is one table address is each that is the same
  pub same_carries : same_address s a ≡ true → same_address a b ≡ true → same_address s b ≡ true
  same_carries h k =
      alike_same s b (same_table a b k)
      (alike_on s a b (address_bare a (same_table s a h)) (address_bare b (same_table a b k)) (same_alike s a h) (same_alike a b k))

  -- two table addresses that one text is are the same
  pub same_meet : same_address s a ≡ true → same_address s b ≡ true → same_address a b ≡ true
  same_meet h k =
      alike_same a b (same_table s b k)
      (alike_both s a b (address_bare a (same_table s a h)) (address_bare b (same_table s b k)) (same_alike s a h) (same_alike s b k))

-- a text that is a table address is the same as that address to every other
pub same_as : (s a : List ℕ) → same_address s a ≡ true → (b : List ℕ) → same_address s b ≡ same_address a b
same_as s a h b = go (same_address s b) (same_address a b) refl refl
  where
    go : (x y : Bool) → same_address s b ≡ x → same_address a b ≡ y → same_address s b ≡ same_address a b
    go true y e f = e ∙ sym (same_meet s a b h e)
    go false true e f = absurd (false≢true (sym e ∙ same_carries s a b h f))
    go false false e f = e ∙ sym f

-- a text and a table address that are both a third are the same
pub same_third : (s a b : List ℕ) → is_table_address a ≡ true → same_address s b ≡ true → same_address a b ≡ true → same_address s a ≡ true
same_third s a b h e f = same_carries s b a e (same_turns b a (same_table a b f) h ∙ f)

-- a text of no bytes has the number 0
pub key_none : (s : List ℕ) → length s ≡ 0 → key_of s ≡ 0
unfolding all_uri
key_none [] e = refl
key_none (x ∷ xs) e = absurd (omega arith)

-- a text that is a table address has its number
pub same_key : (s a : List ℕ) → same_address s a ≡ true → key_of s ≡ key_of a
unfolding key_of reaches
same_key s a e = ap (weighed 0) (same_equal _ _ (written (parts s) (parts a) (and_left (same_written (parts s) (parts a)) _ short_holds)).user)
  where
    short_holds : reaches (parts s) (parts a) ≡ true
    short_holds = sym (same_short s a (same_table s a e) (same_uri_lem s a e)) ∙ e

-- so a text of another number is another
pub other_key : (s a : List ℕ) → (key_of s ≡ key_of a → ⊥) → same_address s a ≡ false
other_key s a n = go (same_address s a) refl
  where
    go : (b : Bool) → same_address s a ≡ b → same_address s a ≡ false
    go true h = absurd (n (same_key s a h))
    go false h = h
