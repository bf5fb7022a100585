-- All of the part is filled with zero, and so n zeros are put in.
use Rattle.std.proofs.Common.{◌≡◌, replicate, rules, arith}
use Rattle.success.proofs.ClearLaws.{zeros_over}
use Rattle.success.proofs.store.zero_from.Goals as goal

pub returns : goal.returns
returns c =
    let e : c.fill.new.self ≡ replicate c.args.n 0 = search rules in
    zeros_over _ _ _ _ _ e (omega arith)
