-- Where the slice has a record at the place, the look is at that one, which is record i.
use Rattle.std.proofs.Common.{ap, sym, ◌∙◌}
use Rattle.std.proofs.lemmas.List.{get_or_default}
use borrow.Author.Tests.{ltb-true}
use Rattle.record.specs.Places.{empty_record}
use Rattle.lent.specs.Sixteen.{record_at}
use Rattle.lent.specs.Look.{look_of, look_at}
use Rattle.lent.proofs.look_or_none.Goals as goal

pub returns-in-Some : goal.returns-in-Some
unfolding look_at record_at
returns-in-Some c =
    let found = c.in-Some.ensures.lookup in
    c.look_of.ensures ∙ ap look_of (found.1 ∙ get_or_default c.args.t.now c.args.i _ empty_record (ltb-true _ _ (sym found.0)))
