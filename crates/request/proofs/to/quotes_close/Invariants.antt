-- What the quotes of the text come to is left at each place to the bytes from there on.
use Rattle.std.proofs.Common.{◌≡◌, drop}
use Rattle.request.specs.declared.Quote.TheVariants.{Outside}
use Rattle.request.specs.To.{quotes_close}
use Rattle.request.proofs.to.quotes_close.Given as goal

abbrev pub invariant-loop-b : goal.invariant-loop-b
invariant-loop-b l = quotes_close Outside l.v ≡ quotes_close l.q (drop l.b-index l.v)
