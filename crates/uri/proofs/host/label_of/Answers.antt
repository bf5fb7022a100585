-- A run that begins and ends with a letter or a digit is a label.
use mathlib.Core.Path.{sym, ◌∙◌}
use Rattle.uri.proofs.LabelLaws.{label_told}
use Rattle.uri.proofs.host.label_of.Goals as goal

pub returns : goal.returns
returns c =
    simp (
      label_told _ _ _ c.requires c.if-e-i.false,
      sym c.has.ensures ∙ c.if-not-has.false,
      sym c.has-else-not-has.ensures ∙ c.if-not-has-2.false,
      c.has-2.ensures,
    )
