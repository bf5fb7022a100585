-- What is left to read, from the place that was reached, says what the whole text says.
use Rattle.std.proofs.Common.{sym, ◌∙◌, rules, tests}
use Rattle.uri.specs.Host.{is_iPv6}
use Rattle.uri.proofs.PieceLaws.{yields_pieces, left_turn, left_end}
use Rattle.uri.proofs.GroupLaws.{groups_begin, groups_step}
use Rattle.uri.proofs.groups.is_ipv6.Goals as goal

pub loop-p-init : goal.loop-p-init
unfolding is_iPv6
loop-p-init c = groups_begin 58 _ _ _ _

pub loop-p-preserved : goal.loop-p-preserved
loop-p-preserved c =
    let t = left_turn (yields_pieces _ 58 c.args.s.now (cc) (cc) (cc) (λ x b q k. search (rules, tests))) c.loop-p.yielded _ c.loop-p.yielded_by _ _ c.in-Some.p c.in-Some.is c.next.ensures.steps in
    c.loop-p.invariant ∙ rw (t, c.step-at.ensures) (groups_step _ c.loop-p.before c.loop-p.last.now _ _)

pub returns-then-may_end : goal.returns-then-may_end
returns-then-may_end c =
    let t = left_end (yields_pieces _ 58 c.args.s.now (cc) (cc) (cc) (λ x b q k. search (rules, tests))) c.loop-p.yielded _ c.loop-p.yielded_by _ _ c.in-None.is c.next.ensures.steps in
    sym (c.loop-p.invariant ∙ rw (t, ← c.may_end.ensures, c.if-may_end.true))

pub returns-then-is_ipv4 : goal.returns-then-is_ipv4
returns-then-is_ipv4 c =
    let t = left_end (yields_pieces _ 58 c.args.s.now (cc) (cc) (cc) (λ x b q k. search (rules, tests))) c.loop-p.yielded _ c.loop-p.yielded_by _ _ c.in-None.is c.next.ensures.steps in
    sym (c.loop-p.invariant ∙ rw (t, ← c.may_end.ensures, c.if-may_end.false, ← c.is_ipv4.ensures, c.if-is_ipv4.true, ← c.may_end-then-is_ipv4.ensures))

pub returns-else-is_ipv4 : goal.returns-else-is_ipv4
returns-else-is_ipv4 c =
    let t = left_end (yields_pieces _ 58 c.args.s.now (cc) (cc) (cc) (λ x b q k. search (rules, tests))) c.loop-p.yielded _ c.loop-p.yielded_by _ _ c.in-None.is c.next.ensures.steps in
    sym (c.loop-p.invariant ∙ rw (t, ← c.may_end.ensures, c.if-may_end.false, ← c.is_ipv4.ensures, c.if-is_ipv4.false))
