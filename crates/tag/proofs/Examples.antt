-- Presented tokens by computation: which are the paper's first tag and which are not, and which bytes have another case.
use Rattle.std.proofs.Common.{◌≡◌, ℕ, ◌+◌, Bool, true, false, List, [], ◌∷◌, refl}
use Rattle.laws.specs.Bytes.{bytes}
use Rattle.laws.specs.Lists.{any, every, listed, those}
use Rattle.text.specs.Names.{same_text}
use Rattle.text.specs.All.{all_text}
use Rattle.tag.specs.Tag.{tag_of}
use Rattle.tag.specs.Written.{is_tag_text}
use Rattle.tag.specs.All.{all_tag}

-- the token is the tag of success number 1 of an address with start 0
is_first : List ℕ → Bool
is_first token = is_tag_text token (tag_of 0 1)

-- as it is written, in capitals and in mixed case
first : every is_first (bytes "9e3779b9" ∷ bytes "9E3779B9" ∷ bytes "9E3779b9" ∷ bytes "9e3779B9" ∷ []) ≡ true
unfolding all_text all_tag is_first
first = refl

-- other digits, too few, too many, none; a digit with 32 added or taken off, letters with 64 taken off; and what is no digit at all
others : List (List ℕ)
others =
    bytes "9f3779b9" ∷ bytes "9E3779B8" ∷ bytes "9E3779B" ∷ bytes "09E3779B9" ∷ bytes "9E3779B90" ∷ [] ∷ bytes "Ye3779b9" ∷ bytes "9eSWWYbY"
    ∷ (25 ∷ bytes "e3779b9") ∷ bytes "9%3779\"9" ∷ bytes "*" ∷ []

not_first : any is_first others ≡ false
unfolding all_text all_tag is_first others
not_first = refl

-- 32 more is the other case of A to Z, and of no other byte: @ is not `, and [ is not {
other_case : those (λ b. same_text (b ∷ []) ((b + 32) ∷ [])) (listed (λ b. b) 0 224) ≡ listed (λ b. b) 65 26
unfolding all_text
other_case = refl
