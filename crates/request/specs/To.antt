-- Whether a To value has a tag.
-- Rules 6.13 to 6.16 of docs/RULES.md.
use Rattle.std.specs.Prelude.{ℕ, ◌+◌, Bool, true, false, ◌&&◌, ◌||◌, not, List, [], ◌∷◌, eqb, ltb, length, take, drop}
use Rattle.laws.specs.Choose.{pick}
use Rattle.laws.specs.Bytes.{bytes}
use Rattle.laws.specs.Lists.{place_of, byte_at}
use Rattle.text.specs.Class.{is_blank}
use Rattle.text.specs.Runs.{without}
use Rattle.text.specs.Names.{same_text}
use Rattle.request.specs.declared.Quote.{Quote}
use Rattle.request.specs.declared.Quote.TheVariants.{Outside, Inside, Covered}
use Rattle.request.specs.declared.ToValue.{ToValue}
use Rattle.request.specs.declared.ToValue.TheVariants.{Tagged, Untagged, Unclosed}

-- how the byte after this one stands to quotes: a backslash in them covers the next byte
unfoldable pub next_quote : Quote → ℕ → Quote
next_quote Outside b = pick (eqb b 34) Inside Outside
next_quote Inside b = pick (eqb b 34) Outside (pick (eqb b 92) Covered Inside)
next_quote Covered b = Inside

unfoldable pub is_outside : Quote → Bool
is_outside Outside = true
is_outside Inside = false
is_outside Covered = false

-- a byte that stands in quotes counts as a quote mark
unfoldable pub shown_in : Quote → ℕ → ℕ
shown_in Outside b = b
shown_in Inside b = 34
shown_in Covered b = 34

-- the text with a quote mark for every byte that stands in quotes
unfoldable pub outside_quotes : Quote → List ℕ → List ℕ
outside_quotes q [] = []
outside_quotes q (x ∷ xs) = shown_in q x ∷ outside_quotes (next_quote q x) xs

-- no quote is open at the end
unfoldable pub quotes_close : Quote → List ℕ → Bool
quotes_close q [] = is_outside q
quotes_close q (x ∷ xs) = quotes_close (next_quote q x) xs

-- the text has such a byte
unfoldable pub has : ℕ → List ℕ → Bool
has b s = ltb (place_of (eqb b) s) (length s)

-- the text behind the first such byte; empty where there is none
unfoldable pub behind_first : ℕ → List ℕ → List ℕ
behind_first b s = drop (place_of (eqb b) s + 1) s

-- the first < is closed by a > that follows it, or there is none
unfoldable pub angle_closes : List ℕ → Bool
angle_closes t = not (has 60 t) || has 62 (behind_first 60 t)

-- parameters are looked for after the first > that follows the first <, or anywhere where there is no <
unfoldable pub parameter_text : List ℕ → List ℕ
parameter_text t = pick (has 60 t) (behind_first 62 (behind_first 60 t)) t

-- a parameter that is named tag, in either case and blanks aside, before an equals sign
unfoldable pub is_tag : List ℕ → Bool
is_tag p =
    let name = without is_blank p in
    same_text (take 3 name) (bytes "tag") && eqb (byte_at (without is_blank (drop 3 name)) 0) 61

-- one of the parameters is so named: a ; opens each
unfoldable pub some_tag : List ℕ → Bool
some_tag [] = false
some_tag (x ∷ xs) = let r = some_tag xs in (eqb x 59 && is_tag xs) || r

-- what a To value says of its tag; an unclosed quote or < is unreadable
unfoldable pub to_value : List ℕ → ToValue
to_value v =
    let t = outside_quotes Outside v in
    pick (quotes_close Outside v && angle_closes t) (pick (some_tag (parameter_text t)) Tagged Untagged) Unclosed
