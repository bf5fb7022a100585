-- What `read_at` gives, with the record that is found of the address, is what reading says of what was lent.
use Rattle.lent.proofs.LookLaws.{front_long}
use Rattle.windgusset.proofs.ContractLaws.{read_as}
use Rattle.windgusset.proofs.read.Goals as goal

pub returns : goal.returns
returns c =
    read_as c.args.records.now (λ h. front_long _ _ _ h c.looked-ls.ensures c.looked-ls.type_inv)
    c.args.store.now c.args.address.now c.args.name.now c.args.clock c.args.default.now _ _
    (rw (c.record_or_empty-own.ensures, c.seek-k.ensures, c.looked-ls.ensures) at c.read_at.ensures)
