-- The units, made small, up to a bare = are compared with the bytes asked for.
use Rattle.std.proofs.Common.{◌≡◌, ◌∙◌, refl, ap₂, rules, tests}
use Rattle.std.proofs.lemmas.Iterator.{YieldsList-from_slice, YieldsList-from_map}
use Rattle.std.proofs.lemmas.Iterator.Consumers.{YieldsList-from_first, YieldsList-at}
use Rattle.std.proofs.lemmas.Iterator.Search.{YieldsList-from_take_while}
use Rattle.laws.specs.Lists.{same}
use Rattle.text.specs.Names.{lower}
use Rattle.uri.specs.Classes.{is_other}
use Rattle.uri.specs.Units.{units_left}
use Rattle.uri.proofs.EqLaws.{eq_told, map_same}
use Rattle.uri.proofs.NameLaws.{name_is}
use Rattle.uri.proofs.names.is_named.Goals as goal

pub returns : goal.returns
unfolding is_other
returns c =
    eq_told (λ x y. y ≡ x)
    (YieldsList-from_take_while _ (is_other 61)
    (YieldsList-at c.take_while.ensures.source (YieldsList-from_map _ lower (YieldsList-at c.map.ensures.source (YieldsList-from_first (λ x. x) units_left _ refl)) c.map.ensures.closure (λ x r q k. search (rules, tests))))
    c.take_while.ensures.closure c.take_while.ensures.done (λ x b q k. search (rules, tests)))
    (λ it e. YieldsList-at e (YieldsList-from_map _ (λ x. x) (YieldsList-at c.map-2.ensures.source (YieldsList-from_slice c.args.name.now cc)) c.map-2.ensures.closure (λ x r q k. search (rules, tests))))
    c.eq.ensures.ran
    ∙ ap₂ same (name_is _) (map_same _)
