-- The names seen, with one header line more: how the pass over the lines goes on.
use Rattle.std.specs.Prelude.{ℕ, List, [], ◌∷◌, eqb, get_or, set}
use Rattle.laws.specs.Choose.{pick}
use Rattle.request.specs.HeaderLines.{name_of}
use Rattle.request.specs.Names.{name_number}
use Rattle.request.specs.Head.{zero_seen}
use Rattle.request.specs.declared.Line.{Line}
use Rattle.request.specs.declared.Seen.{Seen}

-- a name with one line more: its first line is kept
unfoldable pub noted_once : Seen → Line → Seen
noted_once f l = pick (eqb f.times 0) (record { times = 1; line = l }) (record { times = 2; line = f.line })

-- the names seen, with one line more
unfoldable pub noted : List ℕ → List Seen → Line → List Seen
noted s seen l = let n = name_number (name_of s l) in set seen n (noted_once (get_or seen n zero_seen) l)

-- the names seen, with some lines more
unfoldable pub noted_all : List ℕ → List Seen → List Line → List Seen
noted_all s seen [] = seen
noted_all s seen (l ∷ ls) = noted_all s (noted s seen l) ls
