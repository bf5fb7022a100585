-- The three kinds of a host told apart.
use mathlib.Core.Path.{◌≡◌, refl, sym, ◌∙◌, ap, ap₂}
use mathlib.Core.Bool.{Bool, true, false, ◌&&◌, and-false, or-false}
use mathlib.Core.List.{List, [], ◌∷◌}
use Prim.Native.Nat.{ℕ, suc, ◌+◌, ◌-◌, ◌<◌}
use native.Mathlib.Nat.{add-zero}
use native.Mathlib.Numerals.{add-one}
use native.Mathlib.Decide.{dec_lt}
use native.Mathlib.Omega.{arith}
use lib.Dec.{eqb}
use lib.ListN.{length, drop}
use lib.Seq.{drop-cons}
use borrow.Author.Tests.{eq-eqb, ne_eqb}
use Rattle.laws.specs.Choose.{pick}
use Rattle.laws.specs.Lists.{byte_at, part, every}
use Rattle.laws.proofs.Parts.{part_at_lem, part_none}
use Rattle.text.specs.Runs.{past, front}
use Rattle.text.proofs.RunLaws.{byte_there, byte_within, past_on, past_from}
use Rattle.uri.specs.Classes.{is_name_byte, is_other}
use Rattle.uri.specs.Pieces.{on_first, pieces}
use Rattle.uri.specs.Host.{is_end, are_labels, is_hostname, is_octet, is_iPv4, is_reference, is_host}
use Rattle.uri.specs.Read.{behind_bracket, host_end}
use Rattle.uri.specs.Parts.{host_of}
use Rattle.uri.specs.All.{all_uri}
use Rattle.uri.specs.declared.host.Host.{Host}
use Rattle.uri.proofs.PastLaws.{part_run}
use Rattle.uri.proofs.HostnameLaws.{pick_same}

-- where a host ends, and whether it is one
abbrev pub host : ℕ → Bool → Host
host e b = record { end = e; fits = b }

-- the bytes of names from a position on: where they end, and whether they are a hostname
abbrev hostname_of : List ℕ → ℕ → Host
hostname_of s at = host (past is_name_byte s at) (is_hostname (part s at (past is_name_byte s at)))

-- as they were read
pub name_read : (s : List ℕ) (at e : ℕ) (b : Bool) → past is_name_byte s at ≡ e → is_hostname (front is_name_byte (drop at s)) ≡ b
    → host e b ≡ hostname_of s at
name_read s at e b p q = ap₂ host (sym p) (sym q ∙ ap is_hostname (sym (part_run is_name_byte s at (past is_name_byte s at) refl)))

-- a text that begins with [ is no hostname
no_hostname : (xs : List ℕ) → is_hostname (91 ∷ xs) ≡ false
unfolding all_uri
no_hostname xs = go (pieces 46 xs)
  where
    go : (ps : List (List ℕ)) → are_labels (on_first 91 ps) ≡ false
    go [] = refl
    go (p ∷ ps) = pick_same (is_end ps)

-- and no IPv4 address
no_ipv4 : (xs : List ℕ) → is_iPv4 (91 ∷ xs) ≡ false
unfolding all_uri
no_ipv4 xs = go (pieces 46 xs)
  where
    go : (ps : List (List ℕ)) → (eqb (length (on_first 91 ps)) 4 && every is_octet (on_first 91 ps)) ≡ false
    go [] = refl
    go (p ∷ ps) = and-false (eqb (suc (length ps)) 4)

-- a [ stands at a position: the host goes to the ] behind it
module _ (s : List ℕ) (at : ℕ) (b : byte_at s at ≡ 91) where
  -- it stands in the text
  within : at < length s
  within = byte_within s at b (omega arith)

  -- the host ends behind the ]
  bracket_end : host_end s at ≡ behind_bracket s at
  unfolding host_end
  bracket_end = rw (eq-eqb (byte_at s at) 91 b)

  -- which is not where it begins
  bracket_behind : at < behind_bracket s at
  unfolding behind_bracket is_other
  bracket_behind = go (eqb (byte_at s (past (is_other 93) s at)) 93)
    where
      far : at < past (is_other 93) s at
      far = rw (past_on (is_other 93) s at within (rw (sym (byte_there s at within) ∙ b))) (omega (arith, past_from (is_other 93) s (at + 1)))

      go : (t : Bool) → at < pick t (past (is_other 93) s at + 1) (past (is_other 93) s at)
      go true = omega (arith, far)
      go false = far

  -- so it begins with the [
  bracket_part : (e : ℕ) → at < e → part s at e ≡ 91 ∷ part s (at + 1) e
  unfolding part
  bracket_part e h =
      let more : e - at ≡ suc (e - (at + 1)) = omega arith in
      rw (more, drop-cons s at 0 within, sym (byte_there s at within) ∙ b, add-one)

  -- and is a host exactly if it is a reference
  pub host_bracket : (e : ℕ) → e ≡ behind_bracket s at → host e (is_reference (part s at e)) ≡ host_of s at
  unfolding host_of is_host
  host_bracket e q =
      rw (bracket_end, ← q, bracket_part e (omega (arith, bracket_behind)), no_hostname, no_ipv4)

-- another byte stands there: the host is made of bytes of names
module _ (s : List ℕ) (at : ℕ) (n : byte_at s at ≡ 91 → ⊥) where
  -- the host ends where they end
  names_end : host_end s at ≡ past is_name_byte s at
  unfolding host_end
  names_end = rw (ne_eqb (byte_at s at) 91 n)

  -- it is no reference
  no_reference : (e : ℕ) → is_reference (part s at e) ≡ false
  unfolding is_reference byte_at
  no_reference e = rw (ne_eqb (byte_at (part s at e) 0) 91 (λ q. n (go (dec_lt at e) q)))
    where
      go : Dec (at < e) → byte_at (part s at e) 0 ≡ 91 → byte_at s at ≡ 91
      go (yes h) q = sym (part_at_lem s at e 0 256 (omega arith) ∙ rw add-zero) ∙ q
      go (no h) q = absurd (omega (arith, rw (part_none s at e (omega arith)) at q))

  module _ (r : Host) (p : r ≡ hostname_of s at) where
    -- a hostname
    pub host_name : r.fits ≡ true → r ≡ host_of s at
    unfolding host_of is_host
    host_name f = p ∙ rw (names_end, sym (ap (λ (h : Host). h.fits) p) ∙ f)

    -- no hostname
    pub host_numbers : r.fits ≡ false → host r.end (is_iPv4 (part s at r.end)) ≡ host_of s at
    unfolding host_of is_host
    host_numbers f =
        rw (names_end, sym (ap (λ (h : Host). h.fits) p) ∙ f, no_reference, or-false, ap (λ (h : Host). h.end) p)
