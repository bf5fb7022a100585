-- What `add_looked` settles of the looks at the records, with the record kept put at its place, is what adding settles of what was lent.
use Rattle.std.proofs.lemmas.Result.{err_from_is_err_and}
use Rattle.lent.proofs.LookLaws.{front_long}
use Rattle.windgusset.proofs.ContractLaws.{added_ok, added_err}
use Rattle.windgusset.proofs.add.Goals as goal

pub returns-in_err-new : goal.returns-in_err-new
returns-in_err-new c =
    let r = err_from_is_err_and c.from_residual.result c.from_residual.ensures.1 in
    let e = rw c.looked-ls.ensures at c.in_err-new.ensures in
    rw (r.1, r.2)
    (added_err c.args.records.now (λ h. front_long _ _ _ h c.looked-ls.ensures c.looked-ls.type_inv) _ _ _ _ e.1 _ e.0)

pub returns : goal.returns
returns c =
    let e = rw c.looked-ls.ensures at c.in_ok-new.ensures in
    rw c.put_if.ensures (added_ok c.args.records.now (λ h. front_long _ _ _ h c.looked-ls.ensures c.looked-ls.type_inv) _ _ _ _ e.1 e.0)
