-- Where the bytes have room, what writing leaves is what is to stand there; where they have none the page stays.
use Rattle.std.specs.Prelude.{length}
use Rattle.std.proofs.Common.{◌∙◌, sym}
use Rattle.page.specs.Page.{filled, put_on}
use Rattle.page.proofs.PageLaws.{puts, stays}
use Rattle.page.proofs.output.Page.text.Goals as goal

pub returns-then-has_room-clause-puts : goal.returns-then-has_room-clause-puts
unfolding put_on
returns-then-has_room-clause-puts c = puts (filled c.args.self.now) (length c.args.bs.now) _ (sym c.has_room.ensures ∙ c.if-has_room.true) c.put-self.ensures

pub returns-else-has_room-clause-puts : goal.returns-else-has_room-clause-puts
unfolding put_on
returns-else-has_room-clause-puts c = stays (filled c.args.self.now) (length c.args.bs.now) _ (sym c.has_room.ensures ∙ c.if-has_room.false)
