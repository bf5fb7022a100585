-- The message fits the answer buffer: how long each of its parts is at most.
use mathlib.Core.Path.{◌≡◌}
use mathlib.Core.Bool.{true}
use mathlib.Core.List.{List, []}
use Prim.Native.Nat.{ℕ, ◌+◌, ◌≤◌}
use native.Mathlib.Omega.{arith}
use lib.ListN.{length, length-append}
use Rattle.laws.specs.Bytes.{bytes}
use Rattle.laws.proofs.Parts.{part_size}
use Rattle.text.specs.Digits.{eight_hex}
use Rattle.text.proofs.DigitLaws.{decimal_twenty, eight_length}
use Rattle.tag.specs.Written.{tag_text}
use Rattle.record.specs.Packages.{packages, package_at}
use Rattle.record.proofs.PackageLaws.{no_type}
use Rattle.request.specs.declared.Line.{Line}
use Rattle.request.specs.declared.ToValue.{ToValue}
use Rattle.request.specs.HeaderLines.{bare_line, whole_line, copied, value_of}
use Rattle.request.specs.Names.{To}
use Rattle.request.specs.To.{to_value}
use Rattle.request.specs.Head.{lines_of, lines_named, head_of, seen_at, once, stand_as_they_must, is_readable}
use Rattle.request.proofs.BoundLaws.{copied_short}
use Rattle.response.specs.declared.Outcome.{Outcome}
use Rattle.response.specs.Outcomes.{phrases, phrase_in, phrase_of, status_of, our_field, field_line, field_lines}
use Rattle.response.specs.Message.{status_line, tagged_line, to_lines, echoed, message}
use Rattle.response.proofs.OnceLaws.{only_line}

-- a phrase is at most 26 bytes
pub phrase_fits : (code : ℕ) → length (phrase_of code) ≤ 26
unfolding phrase_of phrases phrase_in
phrase_fits code = grind arith

-- a status line is at most 57 bytes
pub status_fits : (code : ℕ) → length (status_line code) ≤ 57
unfolding status_line
status_fits code = simp length-append (omega (arith, decimal_twenty code, phrase_fits code))

-- a field of ours is four bytes longer than its name and its value
pub field_length : (name value : List ℕ) → length (our_field name value) ≡ length name + (length value + 4)
unfolding our_field
field_length name value = simp length-append (omega arith)

-- a content type is at most 34 bytes
type_fits : (e : ℕ) → length (package_at e).type ≤ 34
unfolding package_at packages
type_fits e = grind arith

-- a package that is not listed has none
pub type_none : (e : ℕ) → (e ≡ 0 → ⊥) → (e ≡ 1 → ⊥) → (e ≡ 2 → ⊥) → (package_at e).type ≡ []
type_none e a b c = no_type e (omega arith)

-- the field of a tag is 20 bytes
pub tag_field_length : (tag : ℕ) → length (our_field (bytes "SIP-ETag") (tag_text tag)) ≡ 20
unfolding tag_text
tag_field_length tag = omega (arith, field_length (bytes "SIP-ETag") (eight_hex tag), eight_length tag)

-- the fields of any outcome are at most 51 bytes
pub fields_fit : (o : Outcome) → length (field_lines o) ≤ 51
unfolding field_lines field_line
fields_fit o = grind (arith, length-append, field_length, tag_field_length, decimal_twenty, type_fits)

-- a line without its CR LF is no longer than with it
pub bare_short : (s : List ℕ) (l : Line) → length (bare_line s l) ≤ length (whole_line s l)
unfolding bare_line whole_line
bare_short s l = omega (arith, part_size s l.start l.end, part_size s l.start (l.end + 2))

-- with a tag it is at most 15 bytes longer
tagged_fits : (v : ToValue) (s : List ℕ) (number : ℕ) (l : Line) → length (tagged_line v s number l) ≤ length (whole_line s l) + 15
unfolding tagged_line
tagged_fits v s number l = grind (arith, length-append, eight_length, bare_short)

module _ (s : List ℕ) (number : ℕ) where
  -- the one To line of a request is at most 15 bytes longer
  pub to_fits : once To (head_of s) ≡ true
      → length (to_lines s number (lines_named To s (lines_of s))) ≤ length (copied s (lines_named To s (lines_of s))) + 15
  unfolding to_lines copied
  to_fits o =
      let l = (seen_at To (head_of s)).line in
      rw (only_line s To (omega arith) o) (simp length-append (omega (arith, tagged_fits (to_value (value_of s l)) s number l)))

  -- so the lines of a readable request that are repeated are at most 15 bytes longer than the request
  pub echoed_fits : is_readable s (head_of s) ≡ true → length (echoed s (lines_of s) number) ≤ length s + 15
  unfolding echoed is_readable stand_as_they_must
  echoed_fits e = grind (arith, length-append, copied_short s, to_fits)

  -- and a message is at most 4608 bytes
  pub message_fits : (o : Outcome) → length s ≤ 4096 → is_readable s (head_of s) ≡ true → length (message s number o) ≤ 4608
  unfolding message
  message_fits o k e =
      simp length-append
      (omega (arith, status_fits (status_of o), echoed_fits e, fields_fit o, field_length (bytes "Content-Length") (bytes "0")))
