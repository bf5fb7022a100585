-- The units of both are compared, one by one.
use mathlib.Core.Path.{◌≡◌, refl, ap}
use Rattle.std.proofs.lemmas.Iterator.Consumers.{YieldsList-from_first}
use Rattle.uri.specs.Units.{units_left}
use Rattle.uri.proofs.EqLaws.{eq_told}
use Rattle.uri.proofs.escapes.same_normal.Goals as goal

pub returns : goal.returns
returns c =
    eq_told (λ x y. y ≡ x) (YieldsList-from_first (λ x. x) units_left _ refl)
    (λ it e. YieldsList-from_first (λ x. x) units_left _ (ap units_left e)) c.eq.ensures.ran
