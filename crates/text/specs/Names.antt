-- Texts compared in either case, and names with their compact forms.
-- Rules 1.7, 6.9 of docs/RULES.md.
use Rattle.std.specs.Prelude.{ℕ, ◌+◌, Bool, List, [], ◌∷◌}
use Rattle.laws.specs.Choose.{pick}
use Rattle.laws.specs.Lists.{same, any}
use Rattle.text.specs.Class.{from_to}

-- a capital as its small letter, any other byte as it is
unfoldable pub lower : ℕ → ℕ
lower b = pick (from_to 65 90 b) (b + 32) b

-- a text with every capital made small
unfoldable pub lowered : List ℕ → List ℕ
lowered [] = []
lowered (x ∷ xs) = lower x ∷ lowered xs

-- the two texts are the same in either case
unfoldable pub same_text : List ℕ → List ℕ → Bool
same_text s t = same (lowered s) (lowered t)

-- names match in either case: the text is one of the spellings of a name, full or compact
unfoldable pub is_named : List (List ℕ) → List ℕ → Bool
is_named spellings s = any (same_text s) spellings
