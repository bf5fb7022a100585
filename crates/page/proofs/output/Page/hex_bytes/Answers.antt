-- Where there is no byte, a - stands; otherwise pair by pair, up to the last.
use Rattle.std.proofs.Common.{◌∙◌, sym}
use Rattle.std.proofs.lemmas.Bool.{eqb-true, eqb-false}
use Rattle.page.specs.Page.{filled, hex_on}
use Rattle.page.proofs.PageLaws.{pairs_end, pairs_next, hex_some, hex_none}
use Rattle.page.proofs.output.Page.hex_bytes.Goals as goal

pub returns-then-is_empty-clause-puts : goal.returns-then-is_empty-clause-puts
unfolding hex_on
returns-then-is_empty-clause-puts c =
    c.text.ensures.puts
    ∙ sym (hex_none (filled c.args.self.now) c.args.bs.now (eqb-true _ _ (sym c.is_empty.ensures ∙ c.if-is_empty.true)))

pub loop-b-preserved : goal.loop-b-preserved
loop-b-preserved c = (
  rw (c.hex.ensures.puts, c.from.ensures) (sym (pairs_next (filled c.loop-b.self) c.args.bs.now c.loop-b.b-index c.loop-b-test.true) ∙ c.loop-b.invariant.0),
  c.hex.ensures.same ∙ c.loop-b.invariant.1,
)

pub returns-clause-puts : goal.returns-clause-puts
returns-clause-puts c =
    sym (pairs_end (filled c.loop-b.self) c.args.bs.now c.loop-b.b-index c.loop-b-test.false)
    ∙ (c.loop-b.invariant.0
    ∙ sym (hex_some (filled c.args.self.now) c.args.bs.now (eqb-false _ _ (sym c.is_empty.ensures ∙ c.if-is_empty.false))))

pub returns-clause-same : goal.returns-clause-same
returns-clause-same c = c.loop-b.invariant.1
