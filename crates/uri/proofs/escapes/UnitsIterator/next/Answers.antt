-- The unit that stands first is given, and what is left begins behind it.
use Rattle.std.proofs.Common.{◌<◌, length, ap, arith, rules}
use Rattle.std.proofs.lemmas.List.{take_rest}
use Rattle.uri.proofs.UnitLaws.{normal_none, unit_step, unit_within}
use Rattle.uri.proofs.escapes.UnitsIterator.next.Goals as goal

pub returns-then-is_empty-clause-steps : goal.returns-then-is_empty-clause-steps
returns-then-is_empty-clause-steps c =
    let none : length c.args.self.now.rest.now < 1 = search rules in
    (normal_none _ none, normal_none _ none)

pub slice_bounds-self-count : goal.slice_bounds-self-count
slice_bounds-self-count c =
    let some : 0 < length c.args.self.now.rest.now = search rules in
    omega (arith, unit_within _ 0 some _ c.unit_at-u.ensures)

pub slice_bounds-self-start : goal.slice_bounds-self-start
slice_bounds-self-start c =
    let some : 0 < length c.args.self.now.rest.now = search rules in
    omega (arith, unit_within _ 0 some _ c.unit_at-u.ensures)

pub returns-clause-steps : goal.returns-clause-steps
returns-clause-steps c =
    let some : 0 < length c.args.self.now.rest.now = search rules in
    rw take_rest (unit_step _ 0 some _ c.unit_at-u.ensures)

pub returns-clause-goes : goal.returns-clause-goes
returns-clause-goes c =
    let some : 0 < length c.args.self.now.rest.now = search rules in
    record { on = λ _. (tt, tt, rw take_rest (omega (arith, ap length (unit_step _ 0 some _ c.unit_at-u.ensures)))); keeps = tt; rests = λ _. tt }
