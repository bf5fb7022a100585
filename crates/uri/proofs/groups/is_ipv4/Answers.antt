-- What is left to read says what the whole text says: so many numbers are left.
use Rattle.std.proofs.Common.{sym, ◌∙◌, refl, rules, tests}
use Rattle.uri.specs.Host.{is_iPv4}
use Rattle.uri.proofs.PieceLaws.{yields_pieces, left_turn, left_end}
use Rattle.uri.proofs.OctetLaws.{octets_none, octets_off, octets_on, octets_end}
use Rattle.uri.proofs.groups.is_ipv4.Goals.{then-left-eq0-via-then-left-eq0, then-left-eq0-via-else-left-eq0+then-not-is_octet}
use Rattle.uri.proofs.groups.is_ipv4.Goals as goal

pub loop-p-init : goal.loop-p-init
unfolding is_iPv4
loop-p-init c = refl

pub returns-then-left-eq0 : goal.returns-then-left-eq0
returns-then-left-eq0 c =
    let t = left_turn (yields_pieces _ 46 c.args.s.now (cc) (cc) (cc) (λ x b q k. search (rules, tests))) c.loop-p.yielded _ c.loop-p.yielded_by _ _ c.in-Some.p c.in-Some.is c.next.ensures.steps in
    sym (c.loop-p.invariant ∙ rw t (elim c.then-left-eq0.branch [
      | then-left-eq0-via-then-left-eq0 w ↦ octets_none _ _ _ w.if-left-eq0.true
      | then-left-eq0-via-else-left-eq0+then-not-is_octet w ↦ octets_off _ _ _ (sym w.is_octet.ensures ∙ w.if-not-is_octet.true)
    ]))

pub loop-p-preserved : goal.loop-p-preserved
loop-p-preserved c =
    let t = left_turn (yields_pieces _ 46 c.args.s.now (cc) (cc) (cc) (λ x b q k. search (rules, tests))) c.loop-p.yielded _ c.loop-p.yielded_by _ _ c.in-Some.p c.in-Some.is c.next.ensures.steps in
    c.loop-p.invariant ∙ rw t (octets_on _ _ _ c.if-left-eq0.false (sym c.is_octet.ensures ∙ c.if-not-is_octet.false))

pub returns : goal.returns
returns c =
    let t = left_end (yields_pieces _ 46 c.args.s.now (cc) (cc) (cc) (λ x b q k. search (rules, tests))) c.loop-p.yielded _ c.loop-p.yielded_by _ _ c.in-None.is c.next.ensures.steps in
    sym (c.loop-p.invariant ∙ rw t (octets_end _))
