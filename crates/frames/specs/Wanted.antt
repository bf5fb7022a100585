-- What the witness's own frame wants to be read, by positions in it.
-- Rule 11.9 of docs/RULES.md.
use Rattle.std.specs.Prelude.{ℕ, List, Option, Some, None}
use Rattle.laws.specs.Choose.{pick}
use Rattle.listing.specs.Witness.{name_from, default_from, is_reading, query_of}
use Rattle.frames.specs.declared.wanted.Wanted.{Wanted}

-- state at a clock, with where the length of the package stands and where the default body begins; nothing where the frame is another
unfoldable pub wanted_of : List ℕ → Option Wanted
wanted_of f =
    let asked : Wanted = record { clock = (query_of f).clock; name = name_from f; default = default_from f } in pick (is_reading f) (Some asked) None
