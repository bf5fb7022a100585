-- Whether a parameter is named tag is left at each place to the bytes from there on, until one that opens such a parameter.
use Rattle.std.proofs.Common.{◌≡◌, drop}
use Rattle.request.specs.declared.Quote.TheVariants.{Outside}
use Rattle.request.specs.To.{outside_quotes, some_tag}
use Rattle.request.proofs.to.some_tag.Given as goal

abbrev pub invariant-loop-i : goal.invariant-loop-i
invariant-loop-i l = some_tag (outside_quotes Outside l.v) ≡ some_tag (outside_quotes l.q (drop l.i l.v))
