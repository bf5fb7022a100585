-- The ones of the map are the places that stay occupied, and these are the live ones.
use lib.ListN.{length}
use mathlib.Core.Path.{◌≡◌}
use borrow.Author.Rules.{rules}
use mathlib.Core.Path.{◌∙◌, sym, ap}
use Rattle.success.specs.After.{freed_at}
use Rattle.record.specs.Map.{occupied_in}
use Rattle.record.proofs.MapLaws.{map_count}
use Rattle.success.proofs.StoreLaws.{freed_at_length}
use Rattle.success.proofs.FreedLaws.{count_live}
use Rattle.success.proofs.freed.live_count.Goals as goal

pub returns : goal.returns
returns c =
    let a = c.args in
    let eight : length c.args.r.slots ≡ 8 = search rules in
    c.occupied.ensures ∙ ap (occupied_in 8) c.live_map.ensures
    ∙ sym (map_count (freed_at a.clock a.r) (freed_at_length a.clock a.r ∙ eight)) ∙ count_live a.clock a.r
