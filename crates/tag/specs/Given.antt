-- "A tag that some n from 1 to spent gives": as the paper says it, and in the form that decides it.
-- Rule 4.22 of docs/RULES.md.
use Rattle.std.specs.Prelude.{◌≡◌, ℕ, ◌+◌, ◌-◌, ◌*◌, ◌%◌, ◌≤◌, Bool, ◌&&◌, nat_le}
use Rattle.tag.specs.Tag.{tag_of}

-- some n from 1 to spent gives this tag
pub record SomeGives (start spent tag : ℕ) : Type 0 where
  pub n : ℕ
  pub first : 1 ≤ n
  pub last : n ≤ spent
  pub gives : tag_of start n ≡ tag

-- the number whose tag this is
unfoldable pub number_of_tag : ℕ → ℕ → ℕ
number_of_tag start tag = (tag + 4294967296 - start) * 340573321 % 4294967296

-- the number of the tag is one from 1 to spent
unfoldable pub is_given : ℕ → ℕ → ℕ → Bool
is_given start spent tag = nat_le 1 (number_of_tag start tag) && nat_le (number_of_tag start tag) spent
