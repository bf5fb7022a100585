-- The bench's output: "publish bench", then for each line its number and what came of it.
-- Rules 11.5, 11.6 of docs/RULES.md.
use Rattle.std.specs.Prelude.{ℕ, ◌+◌, List, [], ◌∷◌, ◌++◌}
use Rattle.laws.specs.Bytes.{bytes}
use Rattle.text.specs.Digits.{decimal_of}
use Rattle.tag.specs.Written.{tag_text}
use Rattle.response.specs.declared.Field.{Field}
use Rattle.response.specs.declared.Field.TheVariants.{Nothing, Allow, AllowEvents, MinExpires, Accept, RetryAfter}
use Rattle.response.specs.declared.Outcome.{Outcome}
use Rattle.response.specs.declared.Outcome.TheVariants.{Silent, Refused, Granted}
use Rattle.table.specs.Table.{Table}
use Rattle.table.specs.Add.{added}
use Rattle.table.specs.Handle.{done}
use Rattle.listing.specs.Lent.{open_table, lent_buffer}
use Rattle.listing.specs.Frames.{Frame, adds, handles, bad, lines_of, line_frame}

-- Min-Expires or Retry-After, or -
unfoldable pub field_text : Field → List ℕ
field_text Nothing = bytes "-"
field_text Allow = bytes "-"
field_text AllowEvents = bytes "-"
field_text (MinExpires least) = decimal_of least
field_text (Accept event) = bytes "-"
field_text (RetryAfter seconds) = decimal_of seconds

-- status, tag or -, and granted time, Min-Expires, Retry-After or -; or "none" and result
unfoldable pub outcome_text : Outcome → List ℕ
outcome_text (Silent n) = bytes "none " ++ decimal_of n
outcome_text (Refused status field) = decimal_of status ++ (bytes " - " ++ field_text field)
outcome_text (Granted tag time) = bytes "200 " ++ (tag_text tag ++ (bytes " " ++ decimal_of time))

-- what is printed for a frame, and the table after it
pub record Shown : Type 0 where
  pub text : List ℕ
  pub table : Table

-- "add" and result; or the outcome; or "bad"
unfoldable pub shown_of : Table → Frame → Shown
shown_of t (adds e) = let a = added e t in record { text = bytes "add " ++ decimal_of a.result; table = a.table }
shown_of t (handles x) =
    let d = done t lent_buffer x in record { text = outcome_text d.handled.outcome; table = d.table }
shown_of t bad = record { text = bytes "bad"; table = t }

-- the lines from number n on, each with its number
unfoldable pub listing_from : ℕ → Table → List (List ℕ) → List ℕ
listing_from n t [] = []
listing_from n t (l ∷ ls) =
    let o = shown_of t (line_frame l) in
    decimal_of n ++ (bytes " " ++ (o.text ++ (bytes "\n" ++ listing_from (n + 1) o.table ls)))

-- the bench, over sixteen records
unfoldable pub listing : List ℕ → List ℕ
listing input = bytes "publish bench\n" ++ listing_from 1 (open_table 16) (lines_of input)
