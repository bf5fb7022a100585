-- Where the digits have room, what writing leaves is what is to stand there; where they have none the page stays.
use Rattle.std.proofs.Common.{◌∙◌, sym}
use Rattle.page.specs.Page.{filled}
use Rattle.page.proofs.PageLaws.{puts, stays}
use Rattle.page.proofs.output.Page.hex.Goals as goal

pub returns-then-has_room-clause-puts : goal.returns-then-has_room-clause-puts
returns-then-has_room-clause-puts c = puts (filled c.args.self.now) c.args.k _ (sym c.has_room.ensures ∙ c.if-has_room.true) c.put_hex-self.ensures

pub returns-else-has_room-clause-puts : goal.returns-else-has_room-clause-puts
returns-else-has_room-clause-puts c = stays (filled c.args.self.now) c.args.k _ (sym c.has_room.ensures ∙ c.if-has_room.false)
