-- The text of a line of the listing, from what came of an input line.
-- Rules 11.6, 11.9 of docs/RULES.md.
use Rattle.std.specs.Prelude.{ℕ, List, ◌++◌}
use Rattle.laws.specs.Bytes.{bytes}
use Rattle.text.specs.Digits.{decimal_of}
use Rattle.listing.specs.Listing.{outcome_text}
use Rattle.listing.specs.Witness.{read_text}
use Rattle.frames.specs.declared.shown.Shown.{Shown}
use Rattle.frames.specs.declared.shown.Shown.TheVariants.{Added, Answered, Read, Bad}

-- "add" and result; or what the outcome says; or what was read; or "bad"
unfoldable pub shown_text : Shown → List ℕ
shown_text (Added n) = bytes "add " ++ decimal_of n
shown_text (Answered o) = outcome_text o
shown_text (Read s n) = read_text n s
shown_text Bad = bytes "bad"

-- a line: its number, and what is shown
unfoldable pub line_text : ℕ → Shown → List ℕ
line_text n s = decimal_of n ++ (bytes " " ++ (shown_text s ++ bytes "\n"))
