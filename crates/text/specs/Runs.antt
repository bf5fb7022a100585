-- Runs of bytes of one kind, and the blanks round a text.
-- Rules 6.1, 6.6 of docs/RULES.md.
use Rattle.std.specs.Prelude.{ℕ, suc, ◌+◌, Bool, ◌&&◌, not, List, [], ◌∷◌, take, drop}
use Rattle.laws.specs.Choose.{pick}
use Rattle.laws.specs.Lists.{every, empty}
use Rattle.text.specs.Class.{is_blank, is_token}

-- how many bytes of that kind the text begins with
unfoldable pub run : (ℕ → Bool) → List ℕ → ℕ
run f [] = 0
run f (x ∷ xs) = let r = suc (run f xs) in pick (f x) r 0

-- where the run of bytes of that kind ends that begins at a position
unfoldable pub past : (ℕ → Bool) → List ℕ → ℕ → ℕ
past f s i = i + run f (drop i s)

-- the text without the bytes of that kind that it begins with
unfoldable pub without : (ℕ → Bool) → List ℕ → List ℕ
without f s = drop (run f s) s

-- the bytes of that kind that the text begins with
unfoldable pub front : (ℕ → Bool) → List ℕ → List ℕ
front f s = take (run f s) s

-- the text without the blanks at its end
unfoldable pub trim_end : List ℕ → List ℕ
trim_end [] = []
trim_end (x ∷ xs) = let r = x ∷ trim_end xs in pick (every is_blank (x ∷ xs)) [] r

-- outer spaces and tabs are not part of it
unfoldable pub trim : List ℕ → List ℕ
trim s = trim_end (without is_blank s)

-- the text is one token: one or more token bytes and nothing else
unfoldable pub is_one_token : List ℕ → Bool
is_one_token s = not (empty s) && every is_token s
