-- What is left of the name says what the whole name says, and where its bytes end does not change.
use mathlib.Core.Path.{refl, sym, ◌∙◌, ap}
use native.Mathlib.Omega.{arith}
use borrow.Author.Tests.{eqb-true, eqb-false}
use Rattle.text.proofs.RunLaws.{past_from, past_end}
use Rattle.uri.specs.Classes.{is_label_byte}
use Rattle.uri.specs.Parts.{label_of}
use Rattle.uri.specs.declared.host.Label.{Label}
use Rattle.uri.proofs.HostnameLaws.{name_begin, name_end, name_none, last_end, last_none, last_some, dot_within, dot_end, dot_off, dot_on}
use Rattle.uri.proofs.HostLaws.{name_read}
use Rattle.uri.proofs.host.hostname.Goals as goal

pub loop-i-init : goal.loop-i-init
loop-i-init c = record { end = refl; name = name_begin _ }

pub returns-then-e-i : goal.returns-then-e-i
returns-then-e-i c =
    let h = c.loop-i.invariant in
    let n = eqb-false _ 46 (sym c.stands_at.ensures ∙ c.if-not-stands_at.true) in
    name_read _ _ _ _ (h.end ∙ last_end _ _ _ c.past-e.ensures n) (h.name ∙ last_none _ _ _ c.past-e.ensures n _ c.if-e-i.true)

pub returns-else-e-i : goal.returns-else-e-i
unfolding label_of
returns-else-e-i c =
    let h = c.loop-i.invariant in
    let n = eqb-false _ 46 (sym c.stands_at.ensures ∙ c.if-not-stands_at.true) in
    name_read _ _ _ _ (h.end ∙ last_end _ _ _ c.past-e.ensures n)
    (h.name
    ∙ last_some _ _ _ c.past-e.ensures n _ c.loop-i-test.true c.if-e-i.false
    ∙ sym (ap (λ (l : Label). l.top) c.label_of-l.ensures))

pub returns-then-not-l : goal.returns-then-not-l
unfolding label_of
returns-then-not-l c =
    let h = c.loop-i.invariant in
    let d = eqb-true _ 46 (sym c.stands_at.ensures ∙ c.if-not-stands_at.false) in
    name_read _ _ _ _ (h.end ∙ name_end _ _ _ c.past-e.ensures ∙ sym c.past.ensures)
    (h.name ∙ dot_off _ _ _ c.past-e.ensures d _ (sym (ap (λ (l : Label). l.fits) c.label_of-l.ensures) ∙ c.if-not-l.true))

pub overflow_add-i : goal.overflow_add-i
overflow_add-i c =
    omega (arith, dot_within _ _ _ c.past-e.ensures (eqb-true _ 46 (sym c.stands_at.ensures ∙ c.if-not-stands_at.false)))

pub loop-i-smaller : goal.loop-i-smaller
loop-i-smaller c = omega (arith, c.past-e.ensures, past_from is_label_byte c.args.s.now c.loop-i.i)

pub loop-i-preserved : goal.loop-i-preserved
unfolding label_of
loop-i-preserved c =
    let h = c.loop-i.invariant in
    let l = c.label_of-l.ensures in
    let d = eqb-true _ 46 (sym c.stands_at.ensures ∙ c.if-not-stands_at.false) in
    record {
      end = h.end ∙ dot_end _ _ _ c.past-e.ensures d;
      name = h.name ∙ dot_on _ _ _ c.past-e.ensures d _ _ (sym (ap (λ (l : Label). l.fits) l) ∙ c.if-not-l.false) (ap (λ (l : Label). l.top) l);
    }

pub returns : goal.returns
returns c =
    let h = c.loop-i.invariant in
    name_read _ _ _ _ (h.end ∙ past_end _ _ _ c.loop-i-test.false) (h.name ∙ name_none _ _ _ c.loop-i-test.false)
