-- A phone that sends its tokens in capitals: it publishes, refreshes sixty times and removes, and each is answered 200.
use Prim.Native.Nat.{ℕ, ◌+◌, ◌*◌, ◌-◌}
use mathlib.Core.Path.{◌≡◌, refl}
use mathlib.Core.List.{List, [], ◌∷◌, ◌++◌, map}
use lib.ListN.{replicate}
use Rattle.laws.specs.Choose.{pick}
use Rattle.laws.specs.Bytes.{bytes}
use Rattle.laws.specs.Lists.{listed}
use Rattle.text.specs.Class.{from_to}
use Rattle.tag.specs.Tag.{tag_of}
use Rattle.tag.specs.Written.{tag_text}
use Rattle.response.specs.Outcomes.{status_of}
use Rattle.table.specs.Handle.{Input}
use Rattle.listing.specs.Input.{joined}
use Rattle.runs.specs.Alone.{alone}
use Rattle.runs.specs.Tags.{came_back}
use Rattle.runs.specs.Worked.{entry_with}
use Rattle.runs.specs.All.{all_runs}

-- a small letter as its capital, any other byte as it is
capital : ℕ → ℕ
capital b = pick (from_to 97 122 b) (b - 32) b

-- what the phone sends at a clock: these lines behind those that every request has
says : ℕ → List ℕ → Input
says clock lines =
    record {
      clock = clock;
      number = 1;
      request = bytes "PUBLISH ann SIP/2.0\r\nV:SIP/2.0/UDP PHONE\r\nF:<ANN>;TAG=1\r\nT:<ANN>\r\nI:1\r\nCSEQ:1 PUBLISH\r\nO:presence\r\n" ++ lines;
    }

-- the line with the tag that success number n gave
presents : ℕ → List ℕ
presents n = joined (bytes "SIP-IF-MATCH:" ∷ map capital (tag_text (tag_of 0 n)) ∷ bytes "\r\n" ∷ [])

-- it publishes, refreshes n times, each after 3,000 seconds, and removes
phone : ℕ → List Input
phone n =
    says 0 (bytes "C:APPLICATION/PIDF+XML\r\n\r\nx")
    ∷ (listed (λ i. says (3000 * i) (presents i ++ bytes "\r\n")) 1 n
    ++ (says (3000 * n) (presents (n + 1) ++ bytes "EXPIRES:0\r\n\r\n") ∷ []))

sixty : map (λ x. status_of (came_back x)) (alone (entry_with "ann" 0 0) (phone 60)).exchanges ≡ replicate 62 200
unfolding all_runs capital says presents phone
sixty = refl
