-- The step leaves what the definitions leave, and what is said of the line is put to the page.
use Rattle.desk.proofs.TurnLaws.{turned}
use Rattle.desk.proofs.turn.line_turn.Goals as goal

pub returns-clause-turns : goal.returns-clause-turns
returns-clause-turns c =
    turned _ _ _ _ _ _ _ _ _ _ _ _ c.line_step-s.ensures.leaves c.requires.1 c.line_told-told.ensures c.put_line-end.ensures
