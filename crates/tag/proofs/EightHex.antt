-- Another reading of the comparison: a token is a tag exactly where it is eight hex digits, in either case, that make its number.
use Rattle.std.proofs.Common.{◌≡◌, ℕ, zero, suc, ◌+◌, ◌*◌, ◌/◌, ◌%◌, ◌<◌, Bool, true, not, ◌&&◌, ◌||◌, T, eqb, ltb, leb, ◌↔◌, List, [], ◌∷◌, length, sym, refl, ap, ◌∙◌, subst, ap₂, arith, eqb→eq, ltb-true, lt-ltb}
use mathlib.Core.Bool.{and-false, false≢true}
use native.Mathlib.Decide.{ℕ_discrete, dec_lt}
use borrow.Author.Tests.{lt-leb}
use Rattle.laws.specs.Lists.{every}
use Rattle.laws.proofs.Below.{below}
use Rattle.laws.proofs.Lists.{every_end}
use Rattle.laws.proofs.Tests.{every_head, every_tail, same_self}
use Rattle.text.specs.Class.{is_digit}
use Rattle.text.specs.Digits.{eight_hex, hex_digits, hex_digit, hex_value, hex_from, hex_number}
use Rattle.text.specs.Names.{lower, lowered, same_text}
use Rattle.text.proofs.DigitLaws.{eight_length}
use Rattle.text.proofs.NameLaws.{text_other}
use Rattle.tag.specs.Written.{tag_text, is_tag_text, is_hex, EightHex}
use Rattle.tag.proofs.Written.{digit_back, tag_text_names, tag_named}

-- behind f no byte is a hex digit
none_behind : (b : ℕ) → 102 < b → hex_value b ≡ 16
unfolding hex_value is_digit
none_behind b h =
    rw (lt-leb b 57 (omega arith), lt-leb b 102 h, lt-leb b 70 (omega arith), and-false (leb 48 b), and-false (leb 97 b), and-false (leb 65 b))

-- a capital has the value of its small letter
value_small : (b : ℕ) → hex_value (lower b) ≡ hex_value b
unfolding hex_value is_digit lower
value_small b = go (dec_lt b 103)
  where
    go : Dec (b < 103) → hex_value (lower b) ≡ hex_value b
    go (yes h) = eqb→eq _ _ (below (λ n. eqb (hex_value (lower n)) (hex_value n)) 103 tt b h)
    go (no h) = rw (lt-leb b 90 (omega arith), and-false (leb 65 b))

-- a hex digit, made small, is the one that is written for its value
small_written : (b : ℕ) → is_hex b ≡ true → lower b ≡ hex_digit (hex_value b)
unfolding hex_value is_digit lower hex_digit
small_written b e = go (dec_lt b 103)
  where
    test : ℕ → Bool
    test n = not (is_hex n) || eqb (lower n) (hex_digit (hex_value n))

    go : Dec (b < 103) → lower b ≡ hex_digit (hex_value b)
    go (yes h) = eqb→eq _ _ (subst (λ c. T (not c || eqb (lower b) (hex_digit (hex_value b)))) e (below test 103 tt b h))
    go (no h) = absurd (false≢true (ap (λ v. ltb v 16) (sym (none_behind b (omega arith))) ∙ e))

-- so a text has the number of its small letters
number_small : (v : ℕ) (s : List ℕ) → hex_from v (lowered s) ≡ hex_from v s
unfolding hex_from lowered
number_small v [] = refl
number_small v (x ∷ s) =
    ap (λ d. hex_from (v * 16 + d) (lowered s)) (value_small x) ∙ number_small (v * 16 + hex_value x) s

-- and hex digits where they have them
digits_small : (s : List ℕ) → every is_hex (lowered s) ≡ every is_hex s
unfolding every lowered
digits_small [] = refl
digits_small (x ∷ s) = ap₂ ◌&&◌ (ap (λ v. ltb v 16) (value_small x)) (digits_small s)

-- hex digits that are as many and make the same number are the same in either case
one_spelling : (s t : List ℕ) (v w : ℕ) → length s ≡ length t → every is_hex s ≡ true → every is_hex t ≡ true → hex_from v s ≡ hex_from w t
    → (v ≡ w) × (lowered s ≡ lowered t)
unfolding hex_from lowered
one_spelling [] [] v w l a b e = (e, refl)
one_spelling [] (y ∷ t) v w l a b e = absurd (omega arith)
one_spelling (x ∷ s) [] v w l a b e = absurd (omega arith)
one_spelling (x ∷ s) (y ∷ t) v w l a b e =
    let p : hex_value x < 16 = ltb-true _ 16 (every_head is_hex x s a) in
    let q : hex_value y < 16 = ltb-true _ 16 (every_head is_hex y t b) in
    let deep = one_spelling s t (v * 16 + hex_value x) (w * 16 + hex_value y) (omega arith) (every_tail is_hex x s a) (every_tail is_hex y t b) e in
    let first : v * 16 + hex_value x ≡ w * 16 + hex_value y = deep.0 in
    let value : hex_value x ≡ hex_value y = omega arith in
    let letter : lower x ≡ lower y = small_written x (every_head is_hex x s a) ∙ ap hex_digit value ∙ sym (small_written y (every_head is_hex y t b)) in
    (omega arith, ap₂ ◌∷◌ letter deep.1)

-- what is written is hex digits
digit_hex : (d : ℕ) → d < 16 → is_hex (hex_digit d) ≡ true
digit_hex d h = lt-ltb (hex_value (hex_digit d)) 16 (rw (digit_back d h) h)

written_hex : (k n : ℕ) → every is_hex (hex_digits k n) ≡ true
unfolding hex_digits every
written_hex zero n = refl
written_hex (suc k) n = every_end is_hex (hex_digits k (n / 16)) (hex_digit (n % 16)) (written_hex k (n / 16)) (digit_hex (n % 16) (omega arith))

-- a token is a tag exactly where it is eight hex digits, in either case, that make its number
pub tag_read : (token : List ℕ) (tag : ℕ) → tag < 4294967296 → (is_tag_text token tag ≡ true) ↔ EightHex token tag
unfolding is_tag_text tag_text eight_hex hex_number same_text
tag_read token tag h = (found, named)
  where
    size : length (tag_text tag) ≡ 8
    size = eight_length tag

    as_long : is_tag_text token tag ≡ true → Dec (length token ≡ 8) → length token ≡ 8
    as_long e (yes l) = l
    as_long e (no l) = absurd (false≢true (sym (text_other token (tag_text tag) (λ k. l (k ∙ size))) ∙ e))

    found : is_tag_text token tag ≡ true → EightHex token tag
    found e =
        let small : lowered token ≡ tag_text tag = tag_named token tag e in
        record {
          eight = as_long e (ℕ_discrete (length token) 8);
          digits = sym (digits_small token) ∙ ap (every is_hex) small ∙ written_hex 8 tag;
          makes = sym (number_small 0 token) ∙ ap hex_number small ∙ tag_text_names tag h;
        }

    named : EightHex token tag → is_tag_text token tag ≡ true
    named r =
        let number : hex_from 0 token ≡ hex_from 0 (tag_text tag) = r.makes ∙ sym (tag_text_names tag h) in
        let spelling = one_spelling token (tag_text tag) 0 0 (r.eight ∙ sym size) r.digits (written_hex 8 tag) number in
        rw spelling.1 (same_self (lowered (tag_text tag)))
