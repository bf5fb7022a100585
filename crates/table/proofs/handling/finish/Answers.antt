-- A message that is due fits, and what a success asks for follows from no refusal having applied.
use mathlib.Core.Path.{sym, ◌∙◌, ap}
use borrow.Author.Rules.{rules}
use Rattle.response.specs.Outcomes.{is_silent, is_success}
use Rattle.publish.proofs.AskedLaws.{asked_to}
use Rattle.table.specs.Looked.{case_with}
use Rattle.table.proofs.CoreLaws.{due}
use Rattle.table.proofs.AskLaws.{success_asked, success_asks}
use Rattle.table.proofs.handling.finish.Goals as goal

pub put_answer-length-requires : goal.put_answer-length-requires
unfolding case_with
put_answer-length-requires c =
    λ quiet.
    let t = c.new-t in
    let is = rw (t.ensures.own, t.ensures.clock, t.ensures.request) at c.outcome_at-outcome.ensures in
    let d = due _ (sym (ap is_silent is) ∙ quiet) in
    (d.0, d.1, c.requires d.1, rw t.ensures.request at (asked_to _ _ _ _ t.result.is_asked), d.2)

pub succeed-record-requires : goal.succeed-record-requires
succeed-record-requires c =
    let t = c.new-t in
    let asked = rw (t.ensures.own, t.ensures.clock, t.ensures.request) at t.result.is_asked in
    let is = rw (t.ensures.own, t.ensures.clock, t.ensures.request) at c.outcome_at-outcome.ensures in
    success_asks _ _ _ _ _ _ _ (sym (c.if-not-is_success.ensures ∙ ap is_success is)) (success_asked _ _ _ _ asked c.success_for.ensures)
    (search rules, search rules, search rules, search rules) (search rules) c.body-body.ensures
