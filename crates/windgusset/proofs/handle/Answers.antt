-- What `finish` settles with the record that is begun at, with the record kept put at its place, is what handling settles of what was lent.
use Rattle.std.proofs.Common.{ap, ◌∙◌}
use Rattle.lent.proofs.LookLaws.{front_long}
use Rattle.table.specs.declared.handling.Begun.{Begun}
use Rattle.table.proofs.LookedLaws.{begun_head}
use Rattle.windgusset.proofs.ContractLaws.{handled_kept, handled_none}
use Rattle.windgusset.proofs.handle.Goals as goal
use Rattle.windgusset.proofs.handle.Goals.{in-Some, in_default}

pub finish-settled-requires : goal.finish-settled-requires
finish-settled-requires c = λ h. ap (λ (b : Begun). b.head) c.begin-b.ensures ∙ begun_head _ _ _ h

pub returns : goal.returns
returns c =
    let e = rw (c.record_or_empty-own.ensures, c.begin-b.ensures, c.looked-ls.ensures) at c.finish-settled.ensures.leaves in
    elim c.match-settled.branch [
      | in-Some w ↦ rw (w.records-is, w.put_if.ensures)
          (handled_kept c.args.records.now (λ h. front_long _ _ _ h c.looked-ls.ensures c.looked-ls.type_inv) _ _ _ _ _ e.1.0 e.1.1 (rw w.in-Some.is at e.0))
      | in_default w ↦ rw w.records-is
          (handled_none c.args.records.now (λ h. front_long _ _ _ h c.looked-ls.ensures c.looked-ls.type_inv) _ _ _ _ _ e.1.0 e.1.1 (rw w.in_default.is at e.0))
    ]
