-- Whether the byte is there, and what stands behind it, does not change while others are passed.
use Rattle.std.proofs.Common.{◌≡◌, drop}
use Rattle.request.specs.declared.Quote.TheVariants.{Outside}
use Rattle.request.specs.To.{outside_quotes, has, behind_first}
use Rattle.request.proofs.to.behind_first.Given as goal

abbrev pub invariant-loop-i : goal.invariant-loop-i
invariant-loop-i l =
    (has l.b (outside_quotes Outside l.v) ≡ has l.b (outside_quotes l.q (drop l.i l.v)))
    × (behind_first l.b (outside_quotes Outside l.v) ≡ behind_first l.b (outside_quotes l.q (drop l.i l.v)))
