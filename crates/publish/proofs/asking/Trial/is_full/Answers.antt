-- The three tests are asked in the order of the definition, and the first that fails decides.
use Rattle.std.proofs.Common.{not, ap, sym, ◌∙◌}
use Rattle.std.proofs.lemmas.Bool.{false≢true}
use Rattle.publish.proofs.AskedLaws.{asks_eight}
use Rattle.publish.proofs.asking.Trial.is_full.Goals as goal
use Rattle.publish.proofs.asking.Trial.is_full.Goals.{then-not-has_match, else-not-has_match}

pub returns-then-self-gt0 : goal.returns-then-self-gt0
returns-then-self-gt0 c =
    elim c.if-not-has_match.branch [
      | then-not-has_match w ↦
          asks_eight _ _ _ _ c.args.self.now.is_asked (sym c.has_match.ensures ∙ w.if-not-has_match.true) (sym w.value-is ∙ c.if-self-gt0.true)
          c.live_count.ensures
      | else-not-has_match w ↦ absurd (false≢true (sym (w.value-is ∙ ap not w.if-not-has_match.false) ∙ c.if-self-gt0.true))
    ]
