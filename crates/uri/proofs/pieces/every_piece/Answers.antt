-- Each piece is asked.
use Rattle.std.proofs.Common.{◌∙◌, ap, rules, tests}
use lib.Dec.{eqb}
use Rattle.std.proofs.lemmas.Iterator.Splits.{YieldsList-from_slice_split}
use Rattle.std.proofs.lemmas.Iterator.Search.{all_from_yields_List}
use Rattle.laws.specs.Lists.{every}
use Rattle.uri.specs.Parts.{is_piece}
use Rattle.uri.proofs.EveryLaws.{every_all}
use Rattle.uri.proofs.PieceLaws.{pieces_split}
use Rattle.uri.proofs.pieces.every_piece.Goals as goal

pub returns : goal.returns
returns c =
    all_from_yields_List (is_piece c.args.kind) _ _ _ c.all.ensures.ran
    (YieldsList-from_slice_split _ (λ b. eqb b c.args.c) c.args.s.now c.split.ensures.rest c.split.ensures.done c.split.ensures.closure (λ x b q k. search (rules, tests)))
    (λ x b q k. search (rules, tests))
    ∙ every_all _ _
    ∙ ap (every _) (pieces_split c.args.c c.args.s.now)
