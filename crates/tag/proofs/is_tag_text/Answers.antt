-- The eight digits fill the local buffer, so what the token is compared with is the tag as it is written.
use Rattle.std.proofs.Common.{ℕ, List, ap, ◌∙◌}
use Rattle.laws.proofs.Wrote.{wrote_whole}
use Rattle.text.specs.Names.{same_text}
use Rattle.text.proofs.DigitLaws.{eight_length}
use Rattle.tag.specs.Written.{is_tag_text, tag_text}
use Rattle.tag.proofs.is_tag_text.Goals as goal

pub returns : goal.returns
unfolding is_tag_text tag_text
returns c =
    c.same_text.ensures
    ∙ ap (λ (d : List ℕ). same_text c.args.token.now d) (wrote_whole c.put_eight.ensures (eight_length _))
