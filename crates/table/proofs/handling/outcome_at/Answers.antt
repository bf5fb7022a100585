-- An early refusal is the outcome; where there is none, what the request says decides.
use mathlib.Core.Path.{sym, ◌∙◌}
use Rattle.table.specs.Looked.{case_with}
use Rattle.table.proofs.EarlyLaws.{early_err, early_ok}
use Rattle.table.proofs.handling.outcome_at.Goals as goal

pub returns-in-Err : goal.returns-in-Err
unfolding case_with
returns-in-Err c = sym (early_err (case_with _ _ _ _ _ _ _) (sym c.in-Err.ensures))

pub returns : goal.returns
unfolding case_with
returns c = rw c.requires at c.outcome.ensures ∙ sym (early_ok (case_with _ _ _ _ _ _ _) (sym c.in_default.ensures))
