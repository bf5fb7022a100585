-- The laws of the first line and of header lines: what decides that there is one, and where its parts lie.
use mathlib.Core.Path.{subst, ◌≡◌, refl, sym, ◌∙◌}
use mathlib.Core.Bool.{Bool, true, false, ◌&&◌}
use mathlib.Core.List.{List}
use Prim.Native.Nat.{ℕ, ◌+◌, ◌<◌, ◌≤◌, min}
use native.Mathlib.Decide.{dec_lt}
use native.Mathlib.Omega.{arith}
use lib.Dec.{eqb, ltb, lit<}
use lib.ListN.{length, get_or}
use borrow.Author.Tests.{eqb-true, ltb-true, lt-ltb, le-ltb}
use Rattle.laws.specs.Choose.{pick}
use Rattle.laws.specs.Bytes.{bytes}
use Rattle.laws.specs.Lists.{byte_at, part}
use Rattle.laws.proofs.Parts.{part_none}
use Rattle.laws.proofs.Tests.{and_left, and_right}
use Rattle.text.specs.Class.{is_letter, is_digit, is_token, is_blank, is_value, is_visible}
use Rattle.text.specs.Runs.{past}
use Rattle.text.specs.Names.{same_text}
use Rattle.text.proofs.RunLaws.{byte_there, byte_within, past_off, past_from}
use Rattle.request.specs.FirstLine.{crlf_at, version_at, is_first_line, first_line}
use Rattle.request.specs.HeaderLines.{header_line}
use Rattle.std.proofs.Common.{Some, None}
use Rattle.request.specs.declared.FirstLine.{FirstLine}
use Rattle.request.specs.declared.Line.{Line}

-- a byte that is told to stand at a position stands within the text
pub stands_within : {r : Bool} (s : List ℕ) (i b : ℕ) → r ≡ eqb (byte_at s i) b → r ≡ true → b < 256 → i < length s
stands_within s i b e t h = byte_within s i (eqb-true (byte_at s i) b (sym e ∙ t)) h

-- CR LF stands within the text
pub crlf_within : (s : List ℕ) (i : ℕ) → crlf_at s i ≡ true → i + 1 < length s
unfolding crlf_at
crlf_within s i e =
    let lf = and_right (eqb (byte_at s i) 13) (eqb (byte_at s (i + 1)) 10) e in
    byte_within s (i + 1) (eqb-true (byte_at s (i + 1)) 10 lf) (lit< tt)

-- and so does the version behind a byte, with CR LF
pub version_within : (s : List ℕ) (i : ℕ) → version_at s i ≡ true → i + 9 < length s
unfolding version_at
version_within s i e =
    omega (arith, crlf_within s (i + 8) (and_right (same_text (part s (i + 1) (i + 8)) (bytes "SIP/2.0")) (crlf_at s (i + 8)) e))

-- a first line that is built as it must be is read
pub first_read : (s : List ℕ) (m u : ℕ) → m ≡ past is_token s 0 → u ≡ past is_visible s (m + 1) → 0 < m → (u ≡ m + 1 → ⊥)
    → eqb (byte_at s m) 32 ≡ true → eqb (byte_at s u) 32 ≡ true → version_at s u ≡ true
    → Some (record { method = m; uri = u; next = u + 10 }) ≡ first_line s
unfolding first_line is_first_line
first_read s m u em eu h n a b v =
    let far : m + 1 < u = omega (arith, past_from is_visible s (m + 1), eu, n) in
    rw (← em, ← eu, lt-ltb 0 m h, lt-ltb (m + 1) u far, a, b, v)

-- and so is a header line
pub header_read : (s : List ℕ) (at n k e : ℕ) → n ≡ past is_token s at → k ≡ past is_blank s n → e ≡ past is_value s (k + 1)
    → (n ≡ at → ⊥) → eqb (byte_at s k) 58 ≡ true → crlf_at s e ≡ true
    → Some (record { start = at; name = n; colon = k; end = e }) ≡ header_line s at
unfolding header_line
header_read s at n k e en ek ee h a b =
    let far : at < n = omega (arith, past_from is_token s at, en, h) in
    rw (← en, ← ek, ← ee, lt-ltb at n far, a, b)

-- the laws that reading either goes by
pub ruleset first_parts = (stands_within, version_within, first_read)

pub ruleset line_parts = (stands_within, header_read)

-- no header line begins with CR LF
pub line_begins : (s : List ℕ) (at : ℕ) → crlf_at s at ≡ true → header_line s at ≡ None
unfolding header_line crlf_at is_token is_letter is_digit
line_begins s at e =
    let cr : byte_at s at ≡ 13 = eqb-true (byte_at s at) 13 (and_left (eqb (byte_at s at) 13) (eqb (byte_at s (at + 1)) 10) e) in
    let h : at < length s = byte_within s at cr (lit< tt) in
    let x : get_or s at 0 ≡ 13 = sym (byte_there s at h) ∙ cr in
    let t : is_token (get_or s at 0) ≡ false = rw x in
    rw (past_off is_token s at h t, le-ltb at at (omega arith))

-- where the parts of a first line lie: one behind the other, and its end within the text
pub record FirstWithin (s : List ℕ) (m u next : ℕ) : Type 0 where
  pub apart : m < u
  pub behind : u < next
  pub fits : next ≤ length s

-- so they lie in a line that is built as it must be
first_order : (s : List ℕ) (m u : ℕ) → is_first_line s m u ≡ true → FirstWithin s m u (u + 10)
unfolding is_first_line
first_order s m u t =
    let v = eqb (byte_at s u) 32 && version_at s u in
    let r = ltb (m + 1) u && v in
    let w = and_right (eqb (byte_at s m) 32) r (and_right (ltb 0 m) (eqb (byte_at s m) 32 && r) t) in
    let far = ltb-true (m + 1) u (and_left (ltb (m + 1) u) v w) in
    let room = version_within s u (and_right (eqb (byte_at s u) 32) (version_at s u) (and_right (ltb (m + 1) u) v w)) in
    record { apart = omega arith; behind = omega arith; fits = omega arith }

-- and in one that is read
pub first_line_within : (s : List ℕ) {f : FirstLine} → first_line s ≡ Some f → FirstWithin s f.method f.uri f.next
unfolding first_line
first_line_within s {f} h = go (is_first_line s m u) refl h
  where
    m : ℕ
    m = past is_token s 0

    u : ℕ
    u = past is_visible s (m + 1)

    found : FirstLine
    found = record { method = m; uri = u; next = u + 10 }

    go : (b : Bool) → is_first_line s m u ≡ b → pick b (Some found) None ≡ Some f → FirstWithin s f.method f.uri f.next
    go true t h =
        let x : found ≡ f = cc in
        let w : FirstWithin s found.method found.uri found.next = first_order s m u t in
        subst (λ (g : FirstLine). FirstWithin s g.method g.uri g.next) x w
    go false t h = absurd cc

-- where the parts of a header line lie: it starts where it is looked for, they stand one behind the other, and its CR LF within the text
pub record Within (s : List ℕ) (at : ℕ) (l : Line) : Type 0 where
  pub starts : l.start ≡ at
  pub named : at < l.name
  pub padded : l.name ≤ l.colon
  pub valued : l.colon < l.end
  pub fits : l.end + 1 < length s

-- so they lie in a line that is read
pub header_line_within : (s : List ℕ) (at : ℕ) {l : Line} → header_line s at ≡ Some l → Within s at l
unfolding header_line
header_line_within s at {l} h = go test refl h
  where
    n : ℕ
    n = past is_token s at

    k : ℕ
    k = past is_blank s n

    e : ℕ
    e = past is_value s (k + 1)

    found : Line
    found = record { start = at; name = n; colon = k; end = e }

    test : Bool
    test = ltb at n && (eqb (byte_at s k) 58 && crlf_at s e)

    go : (b : Bool) → test ≡ b → pick b (Some found) None ≡ Some l → Within s at l
    go true t h =
        let x : found ≡ l = cc in
        let colon = eqb (byte_at s k) 58 in
        let far : at < n = ltb-true at n (and_left (ltb at n) (colon && crlf_at s e) t) in
        let room : e + 1 < length s = crlf_within s e (and_right colon (crlf_at s e) (and_right (ltb at n) (colon && crlf_at s e) t)) in
        let pad : n ≤ k = past_from is_blank s n in
        let val : k + 1 ≤ e = past_from is_value s (k + 1) in
        let w : Within s at found = record { starts = refl; named = far; padded = pad; valued = omega arith; fits = room } in
        rw x at w
    go false t h = absurd cc

-- a part that begins behind a colon, or at the largest number where there is none behind it
pub value_saturated : (s : List ℕ) (a e m : ℕ) → e ≤ m → part s (min (a + 1) m) e ≡ part s (a + 1) e
value_saturated s a e m h = go (dec_lt a m)
  where
    go : Dec (a < m) → part s (min (a + 1) m) e ≡ part s (a + 1) e
    go (yes p) = let q : min (a + 1) m ≡ a + 1 = omega arith in rw q
    go (no p) = part_none s (min (a + 1) m) e (omega arith) ∙ sym (part_none s (a + 1) e (omega arith))

-- CR LF stands within the text behind a line that is read
pub line_fits : (s : List ℕ) (at : ℕ) (l : Line) → header_line s at ≡ Some l → l.end + 1 < length s
line_fits s at l e = (header_line_within s at e).fits
