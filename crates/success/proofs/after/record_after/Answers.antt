-- The map and the slots that the freeing left are handed on; granted 0 ends, and any other time begins.
use Rattle.std.proofs.Common.{rules}
use Rattle.success.proofs.after.record_after.Goals as goal

pub ended-requires : goal.ended-requires
ended-requires c = (search rules, c.if-x-eq0.true, c.live_map-live.ensures, c.freed_slots-kept.ensures)
