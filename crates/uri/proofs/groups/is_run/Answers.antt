-- Each byte of a text of fitting length is asked.
use Rattle.std.proofs.Common.{◌≤◌, length, ◌∙◌, rules, tests}
use borrow.Author.Tests.{le-leb}
use Rattle.std.proofs.lemmas.Iterator.{YieldsList-from_slice}
use Rattle.std.proofs.lemmas.Iterator.Search.{all_from_yields_List}
use Rattle.uri.specs.Classes.{is_of}
use Rattle.uri.proofs.EveryLaws.{every_all}
use Rattle.uri.proofs.groups.is_run.Goals as goal

pub returns-then-p-most : goal.returns-then-p-most
returns-then-p-most c =
    let some : 1 ≤ length c.args.p.now = search rules in
    let few : length c.args.p.now ≤ c.args.most = search rules in
    rw (le-leb _ _ some, le-leb _ _ few)
    (all_from_yields_List (is_of c.args.class) _ _ _ c.all.ensures.ran (YieldsList-from_slice c.args.p.now cc) (λ x b q k. search (rules, tests))
    ∙ every_all _ _)
