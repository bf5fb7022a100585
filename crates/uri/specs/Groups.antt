-- The groups of an IPv6 address read one by one: what may follow depends on what stood before. Each place is one of the rules of Host
-- for what may stand behind (proofs/GroupLaws).
use Rattle.std.specs.Prelude.{ℕ, Bool, true, false, List}
use Rattle.laws.specs.Choose.{pick}
use Rattle.laws.specs.Lists.{empty}
use Rattle.uri.specs.Host.{is_hex4}
use Rattle.uri.specs.declared.groups.Place.{Place}
use Rattle.uri.specs.declared.groups.Place.TheVariants.{Begin, Front, Behind, Gap, After, Closed, Wrong}

-- behind an empty group the first, behind a hex4 the second, and otherwise it is wrong
abbrev pub told : List ℕ → Place → Place → Place
told p a b = pick (empty p) a (pick (is_hex4 p) b Wrong)

-- where one group more leads
unfoldable pub stepped : Place → List ℕ → Place
stepped Begin p = told p Front Behind
stepped Front p = told p Gap Wrong
stepped Behind p = told p Gap Behind
stepped Gap p = told p Closed After
stepped After p = told p Wrong After
stepped Closed p = Wrong
stepped Wrong p = Wrong

-- the address may end there
unfoldable pub may_end : Place → Bool
may_end Begin = false
may_end Front = false
may_end Behind = true
may_end Gap = false
may_end After = true
may_end Closed = true
may_end Wrong = false
