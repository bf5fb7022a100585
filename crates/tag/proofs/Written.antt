-- The laws of a written tag and of the comparison with it: different tags are written differently, and a token is no two tags.
use Rattle.std.proofs.Common.{◌≡◌, ℕ, zero, suc, ◌+◌, ◌*◌, ◌/◌, ◌%◌, ◌^◌, ◌<◌, true, eqb, List, [], ◌∷◌, ◌++◌, sym, refl, ap, ◌∙◌, pow-suc, arith, eqb→eq}
use Rattle.laws.specs.Lists.{same}
use Rattle.laws.proofs.Below.{below}
use Rattle.laws.proofs.Tests.{same_equal, same_self}
use Rattle.text.specs.Class.{is_digit}
use Rattle.text.specs.Digits.{eight_hex, hex_digits, hex_digit, hex_value, hex_from, hex_number}
use Rattle.text.specs.Names.{lower, lowered, same_text}
use Rattle.tag.specs.Written.{tag_text, is_tag_text}

-- a digit that is written reads as itself
pub digit_back : (d : ℕ) → d < 16 → hex_value (hex_digit d) ≡ d
unfolding hex_value hex_digit is_digit
digit_back d h = eqb→eq _ _ (below (λ n. eqb (hex_value (hex_digit n)) n) 16 tt d h)

hex_from_append : (v : ℕ) (s t : List ℕ) → hex_from v (s ++ t) ≡ hex_from (hex_from v s) t
unfolding hex_from
hex_from_append v [] t = refl
hex_from_append v (x ∷ s) t = hex_from_append (v * 16 + hex_value x) s t

-- the last k hex digits of a number that has no more read as that number
hex_back : (k n : ℕ) → n < 16 ^ k → hex_from 0 (hex_digits k n) ≡ n
unfolding hex_digits hex_from
hex_back zero n h = omega arith
hex_back (suc k) n h =
    let step : 16 ^ suc k ≡ 16 ^ k * 16 = pow-suc 16 k in
    let rest : hex_from 0 (hex_digits k (n / 16)) ≡ n / 16 = hex_back k (n / 16) (omega arith) in
    let last : hex_value (hex_digit (n % 16)) ≡ n % 16 = digit_back (n % 16) (omega arith) in
    rw (hex_from_append 0 (hex_digits k (n / 16)) (hex_digit (n % 16) ∷ []), rest, last) (omega arith)

-- eight lowercase hex digits name a 32-bit number
pub tag_text_names : (tag : ℕ) → tag < 4294967296 → hex_number (tag_text tag) ≡ tag
unfolding tag_text eight_hex hex_number
tag_text_names tag h = hex_back 8 tag h

-- different tags are written differently
pub tag_text_once : (a b : ℕ) → a < 4294967296 → b < 4294967296 → tag_text a ≡ tag_text b → a ≡ b
tag_text_once a b ha hb e = sym (tag_text_names a ha) ∙ ap hex_number e ∙ tag_text_names b hb

-- a digit that is written is no capital
digit_small : (d : ℕ) → d < 16 → lower (hex_digit d) ≡ hex_digit d
unfolding lower hex_digit
digit_small d h = eqb→eq _ _ (below (λ n. eqb (lower (hex_digit n)) (hex_digit n)) 16 tt d h)

lowered_append : (s t : List ℕ) → lowered (s ++ t) ≡ lowered s ++ lowered t
unfolding lowered
lowered_append [] t = refl
lowered_append (x ∷ s) t = ap (λ xs. lower x ∷ xs) (lowered_append s t)

hex_small : (k n : ℕ) → lowered (hex_digits k n) ≡ hex_digits k n
unfolding hex_digits lowered
hex_small zero n = refl
hex_small (suc k) n =
    rw (lowered_append (hex_digits k (n / 16)) (hex_digit (n % 16) ∷ []), hex_small k (n / 16), digit_small (n % 16) (omega arith))

-- a tag is written without capitals
pub tag_text_small : (tag : ℕ) → lowered (tag_text tag) ≡ tag_text tag
unfolding tag_text eight_hex
tag_text_small tag = hex_small 8 tag

-- a token that is a tag is, with every capital made small, the tag as it is written
pub tag_named : (token : List ℕ) (tag : ℕ) → is_tag_text token tag ≡ true → lowered token ≡ tag_text tag
unfolding is_tag_text same_text
tag_named token tag e = same_equal _ _ e ∙ tag_text_small tag

-- a tag as it is written is that tag
pub tag_itself : (tag : ℕ) → is_tag_text (tag_text tag) tag ≡ true
unfolding is_tag_text same_text
tag_itself tag = same_self (lowered (tag_text tag))

-- a token is no two tags
pub tag_named_once : (token : List ℕ) (a b : ℕ) → a < 4294967296 → b < 4294967296 → is_tag_text token a ≡ true → is_tag_text token b ≡ true → a ≡ b
tag_named_once token a b ha hb e f = tag_text_once a b ha hb (sym (tag_named token a e) ∙ tag_named token b f)

-- different tags are written differently, in either case
pub tag_text_apart : (a b : ℕ) → a < 4294967296 → b < 4294967296 → same_text (tag_text a) (tag_text b) ≡ true → a ≡ b
unfolding is_tag_text
tag_text_apart a b ha hb e = tag_named_once (tag_text a) a b ha hb (tag_itself a) e

-- tokens that are the same in either case are the same tags
pub tag_either_case : (s t : List ℕ) (tag : ℕ) → same_text s t ≡ true → is_tag_text s tag ≡ is_tag_text t tag
unfolding is_tag_text same_text
tag_either_case s t tag e = ap (λ xs. same xs (lowered (tag_text tag))) (same_equal (lowered s) (lowered t) e)
