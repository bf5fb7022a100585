-- After i turns the bytes of the first i pairs are written, and each turn writes one more.
use Prim.Native.Nat.{◌+◌, ◌*◌}
use native.Mathlib.Omega.{arith}
use borrow.Author.Rules.{rules}
use Rattle.laws.proofs.Wrote.{wrote_none}
use Rattle.frames.proofs.HexLaws.{digit_value, digits_most, pair_more, pairs_all}
use Rattle.frames.proofs.hex.put_bytes.Goals as goal

pub loop-i-init : goal.loop-i-init
loop-i-init c = wrote_none _ 0 (search rules)

pub pair-requires : goal.pair-requires
pair-requires c =
    let l = c.loop-i in
    let value = digit_value c.args.line.now c.requires.0 in
    (value (l.i * 2) (search rules), value (l.i * 2 + 1) (search rules))

pub bounds-out-i : goal.bounds-out-i
bounds-out-i c = omega (arith, digits_most c.args.line.now c.requires.0)

pub loop-i-preserved : goal.loop-i-preserved
loop-i-preserved c =
    let l = c.loop-i in
    let t = c.args.line.now in
    let fits = digits_most t c.requires.0 in
    pair_more t l.i _ (search rules) (omega arith) c.pair.ensures l.invariant

pub returns : goal.returns
returns c = pairs_all _ (omega arith) c.loop-i.invariant
