-- The records filled with the empty one are those with it put at all sixteen places, and the store and the result are those of `open_store`.
use Rattle.std.proofs.lemmas.Result.{err_from_is_err_and}
use Rattle.windgusset.proofs.ContractLaws.{opened_ok, opened_err}
use Rattle.windgusset.proofs.open.Goals as goal

pub returns-in_err-open_store : goal.returns-in_err-open_store
returns-in_err-open_store c =
    let r = err_from_is_err_and c.from_residual.result c.from_residual.ensures.1 in
    let e = c.in_err-open_store.ensures in
    rw (r.1, r.2) (opened_err c.args.records.now c.args.store.now _ _ e.0 e.1)

pub returns : goal.returns
returns c =
    let e = c.in_ok-open_store.ensures in
    opened_ok c.args.records.now c.args.store.now _ _ e.0 c.empty.ensures (c.fill.ensures.after (λ y h. h)) e.1
